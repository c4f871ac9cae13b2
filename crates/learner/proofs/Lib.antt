pub mod Rows
pub mod HeardVotes
pub mod NotedRecords
pub mod Examples
pub mod OrderedVotes
