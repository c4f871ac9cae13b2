pub mod DiskBooks
pub mod DiskTurns
pub mod WholeBatches
pub mod OneRecord
pub mod FirstTurns
pub mod UnseenTurns
pub mod Crashes
pub mod Synced
