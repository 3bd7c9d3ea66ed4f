pub mod Exports
