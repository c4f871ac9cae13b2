-- What one more entry of its slot makes of a row.
use Rattle.std.specs.Prelude.{Option}
use Rattle.records.specs.declared.entry.Entry.{Entry}
use Rattle.records.specs.SlotStates.{higher, with_one, if_some, ballot_in, vote_in}
use Rattle.acceptor.specs.declared.row.Row.{Row}

-- the row after the entry, if there is one
abbrev pub noted : Row → Option Entry → Row
noted row entry = record {
  promised = with_one (higher (λ b. b)) row.promised (if_some ballot_in entry);
  vote = with_one (higher (λ v. v.ballot)) row.vote (if_some vote_in entry);
}
