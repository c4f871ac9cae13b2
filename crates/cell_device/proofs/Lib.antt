mod Changes
pub mod Files
