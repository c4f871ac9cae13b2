-- What records say of a bag, one by one.
use Rattle.std.proofs.Common.{◌≡◌, ℕ, ◌+◌, ◌<◌, List, length, take, get_or, sym}
use Rattle.std.proofs.lemmas.List.Folds.{list_any_more}
use Rattle.records.specs.declared.record.Record.{Record}
use Rattle.audit_command.specs.Mentions.{says_known, says_vote, mention_by, mention_with}

pub next_mention : (object version digits : List ℕ) (records : List Record) (i : ℕ) (d : Record)
    → i < length records
    → mention_with object version digits (mention_by object version digits (take i records))
    (get_or records i d)
    ≡ mention_by object version digits (take (i + 1) records)
next_mention object version digits records i d more =
    let known = sym (list_any_more (says_known object version digits) records i d more) in
    let vote = sym (list_any_more (says_vote object version digits) records i d more) in
    λ k. record { is_known = known k; has_vote = vote k }
