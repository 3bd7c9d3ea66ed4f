pub mod NodesLoop
