pub mod EachLoop
