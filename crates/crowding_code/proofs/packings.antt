pub mod CrowdLoop
