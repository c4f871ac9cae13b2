pub mod SyncedTexts
