pub mod HandedOn
pub mod WithKeys
pub mod Forged
