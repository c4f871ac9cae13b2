-- What a datagram asks, in the code's words.
use Rattle.std.specs.Prelude.{◌≡◌, ℕ, List}
use Rattle.dgram.specs.Decoded.{message_of}
use Rattle.udp_site.specs.declared.requests.Asked.{Asked}
use Rattle.udp_site.specs.declared.requests.Asked.TheVariants as asks
use Rattle.udp_site.specs.Requests.{Says, Deposits, Queries, Recovers, Noise, request_in}

abbrev pub IsAsked : (federation : ℕ) → List ℕ → Asked → Type 0
IsAsked federation bytes (asks.Hear m) =
    (port : ℕ) → request_in port (message_of federation bytes) ≡ Says m
IsAsked federation bytes (asks.Deposit slot path) =
    (port : ℕ) → request_in port (message_of federation bytes) ≡ Deposits port slot path
IsAsked federation bytes (asks.Query slot) =
    (port : ℕ) → request_in port (message_of federation bytes) ≡ Queries port slot
IsAsked federation bytes (asks.Recover slot) =
    (port : ℕ) → request_in port (message_of federation bytes) ≡ Recovers slot
IsAsked federation bytes asks.Nothing =
    (port : ℕ) → request_in port (message_of federation bytes) ≡ Noise
