mod SocketLemmas
mod BackLemmas
pub mod TextLemmas
