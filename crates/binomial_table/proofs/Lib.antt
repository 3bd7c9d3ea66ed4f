pub mod Pascal
