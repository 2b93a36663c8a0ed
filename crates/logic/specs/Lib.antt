pub mod Logic
pub mod Lines
pub mod Questions
