-- What was written of a cell, in several writes.
use Rattle.std.proofs.Common.{◌≡◌, ℕ, ◌+◌, List, [], ◌++◌, length, take, Option, None, Some, IfSome}
use Rattle.std.proofs.Common.{Result, Ok, Err, refl, sym, subst, inl, inr, append-nil, ap, ◌∙◌}
use Rattle.std.proofs.Common.{arith, append_assoc, min, ◌<◌}
use Rattle.std.proofs.lemmas.Bool.{cases_lt}
use Rattle.std.proofs.lemmas.List.{take_all, take-append-le}
use Rattle.std.specs.Result.{IfOk, OnErr, IsErrOf}
use Rattle.std.specs.Io.KnownBytes.{Appends, Consumes, IsAtEnd}
use Rattle.std.proofs.KnownBytes.{Appends-trans, Consumes-trans}
use Rattle.std.proofs.Math.Seq.{take-append-add}
use Rattle.ledger.specs.declared.ending.Ending.{Ending}
use Rattle.ledger.specs.declared.journal_lines.JournalLines.{JournalLines}
use Rattle.ledger.specs.Pieces.{AreFirstLines, HasGiven, IsWholeText}
use Rattle.ledger.proofs.GivenLines.{first_given}
use Rattle.outcomes.specs.Outcomes.{Outcome, no_memory}
use Rattle.outcomes.specs.declared.fault.ProgramFault.{ProgramFault}
use Rattle.outcomes.specs.declared.fault.ProgramFault.TheVariants as ProgramFaults
use Rattle.ledger_commands.specs.Answers.{status_of}
use Rattle.ledger_commands.specs.Journals.{IsListing, IsListed, IsPartOfListing, HasFirstLines}
use Rattle.ledger_commands.specs.inner.Journals.{IsAfterEnd, IsAfterPiece, some_status}

take_least : (n : ℕ) (xs : List ℕ) → take (min n (length xs)) xs ≡ take n xs
take_least n xs = elim (cases_lt n (length xs)) [
  | inl lt ↦ let is : min n (length xs) ≡ n = omega (arith, lt) in ap (λ (k : ℕ). take k xs) is
  | inr le ↦
      let is : min n (length xs) ≡ length xs = omega (arith, le) in
      ap (λ (k : ℕ). take k xs) is ∙ take_all (length xs) xs (omega arith)
      ∙ sym (take_all n xs le)
]

-- a write after these lines
module _ (first old new : Option (List ℕ)) (text : List ℕ) (had : Appends first old text) where
  written : (bytes : List ℕ) (status : ℕ) (last : List ℕ)
      → IsListing bytes (record { status = status; text = text ++ last })
      → (result : Result ℕ ProgramFault)
      → IfOk result (λ given. (given ≡ status) × Appends old new last)
      → OnErr result ((result ≡ Err ProgramFaults.Output)
      × ((n : ℕ) × Appends old new (take n last)))
      → IsAfterEnd bytes first new result
  written bytes status last is (Ok given) ok err = (
    record { status = status; text = text ++ last },
    is,
    (ok.0, Appends-trans first old new text last had ok.1),
  )
  written bytes status last is (Err ProgramFaults.Output) ok err =
      let n = err.1.0 in (
        record { status = status; text = text ++ last },
        is,
        (
          length text + n,
          subst (Appends first new) (sym (take-append-add text last n))
              (Appends-trans first old new text (take n last) had err.1.1),
        ),
      )
  written bytes status last is (Err ProgramFaults.Input) ok err = absurd (cc err.0)

  -- the last lines
  pub wrote_last : (bytes : List ℕ) (ending : Ending) (last : List ℕ)
      → IsWholeText bytes ending (text ++ last)
      → (result : Result ℕ ProgramFault)
      → IfOk result (λ given. (given ≡ status_of ending) × Appends old new last)
      → OnErr result ((result ≡ Err ProgramFaults.Output)
      × ((n : ℕ) × Appends old new (take n last)))
      → IsAfterEnd bytes first new result
  wrote_last bytes ending last is result ok err =
      written bytes (status_of ending) last (inl (ending, is, refl)) result ok err

  -- the line `memory`
  pub wrote_memory : (bytes : List ℕ) → AreFirstLines bytes text
      → (result : Result ℕ ProgramFault)
      → IfOk result (λ given. (given ≡ no_memory.status) × Appends old new no_memory.text)
      → OnErr result ((result ≡ Err ProgramFaults.Output)
      × ((n : ℕ) × Appends old new (take n no_memory.text)))
      → IsAfterEnd bytes first new result
  wrote_memory bytes lines result ok err =
      written bytes no_memory.status no_memory.text (inr (text, lines, refl, refl)) result ok err

  -- a prefix of more lines
  pub wrote_part : (taken : List ℕ) (lines : JournalLines) (more : List ℕ)
      → HasGiven lines taken (text ++ more) → (fault : ProgramFault)
      → (◌≡◌ {A = Result ℕ ProgramFault} (Err fault) (Err ProgramFaults.Output))
      × ((n : ℕ) × Appends old new (take n more))
      → IsAfterPiece taken lines first new (Err fault)
  wrote_part taken lines more given ProgramFaults.Output h = λ after.
      let n = h.1.0 in
      let k = min n (length more) in
      let outcome : Outcome = record {
        status = no_memory.status;
        text = (text ++ more) ++ no_memory.text;
      } in
      let is : take (length text + k) outcome.text ≡ text ++ take n more =
      ap (take (length text + k)) (append_assoc text more no_memory.text)
      ∙ take-append-add text (more ++ no_memory.text) k
      ∙ ap (λ (b : List ℕ). text ++ b) (take-append-le k more no_memory.text (omega arith)
      ∙ take_least n more) in (
        outcome,
        inr (
          text ++ more,
          first_given lines taken (text ++ more) after given,
          refl,
          refl,
        ),
        (
          length text + k,
          subst (Appends first new) (sym is)
              (Appends-trans first old new text (take n more) had h.1.1),
        ),
      )
  wrote_part taken lines more given ProgramFaults.Input h = absurd (cc h.0)

-- these are first lines of the cell
pub lines_so_far : (lines : JournalLines) (taken text : List ℕ) → HasGiven lines taken text
    → AreFirstLines taken text
lines_so_far lines taken text given =
    subst (λ (b : List ℕ). AreFirstLines b text) (append-nil taken)
    (first_given lines taken text [] given)

-- and so they are with a piece and more after it
pub lines_before : (lines : JournalLines) (taken text piece more : List ℕ)
    → HasGiven lines taken text → AreFirstLines ((taken ++ piece) ++ more) text
lines_before lines taken text piece more given =
    subst (λ (b : List ℕ). AreFirstLines b text) (sym (append_assoc taken piece more))
    (first_given lines taken text (piece ++ more) given)

-- what is so whatever follows is so after a piece
pub after_piece : (taken : List ℕ) (lines : JournalLines) (first new : Option (List ℕ))
    (result : Result ℕ ProgramFault)
    → ((more : List ℕ) → IsAfterEnd (taken ++ more) first new result)
    → IsAfterPiece taken lines first new (some_status result)
after_piece taken lines first new (Ok status) h = h
after_piece taken lines first new (Err ProgramFaults.Output) h = h
after_piece taken lines first new (Err ProgramFaults.Input) h = h []

-- and the other way round
before_end : (taken : List ℕ) (lines : JournalLines) (first new : Option (List ℕ))
    (result : Result ℕ ProgramFault) → IsAfterPiece taken lines first new (some_status result)
    → (more : List ℕ) → IsAfterEnd (taken ++ more) first new result
before_end taken lines first new (Ok status) h = h
before_end taken lines first new (Err ProgramFaults.Output) h = h
before_end taken lines first new (Err ProgramFaults.Input) h = λ more. h

-- ---- what a reader had

-- what holds whatever follows holds of all that a reader had
pub of_all : (a b : Option (List ℕ)) (taken : List ℕ) (P : List ℕ → Type 0) → Consumes a b taken
    → ((more : List ℕ) → P (taken ++ more)) → IfSome a P
of_all None b taken P consumed h = tt
of_all (Some xs) None taken P consumed h = absurd consumed
of_all (Some xs) (Some ys) taken P consumed h = subst P (sym consumed) (h ys)

-- where nothing is left, nothing follows
pub at_end : (a b : Option (List ℕ)) (taken : List ℕ) (P : List ℕ → Type 0) → Consumes a b taken
    → IsAtEnd b → P taken → IfSome a P
at_end None b taken P consumed end h = tt
at_end (Some xs) None taken P consumed end h = absurd consumed
at_end (Some xs) (Some ys) taken P consumed end h =
    subst P (sym (consumed ∙ ap (λ (b : List ℕ). taken ++ b) end ∙ append-nil taken)) h

-- a read of no bytes
pub read_end : (a b c : Option (List ℕ)) (taken buffer : List ℕ) (n : ℕ) → Consumes a b taken
    → Consumes b c (take n buffer) × (n ≡ 0 → 0 < length buffer → IsAtEnd c) → n ≡ 0
    → 0 < length buffer → Consumes a c taken × IsAtEnd c
read_end a b c taken buffer n consumed read none room = (
  subst (Consumes a c) (append-nil taken)
      (Consumes-trans a b c taken [] consumed
      (subst (λ (k : ℕ). Consumes b c (take k buffer)) none read.0)),
  read.1 none room,
)

-- ---- what may be returned

-- of a cell of which a reader had so much, and of which a writer took so much
pub record IsAnswer (all first new : Option (List ℕ)) (result : Result ℕ ProgramFault)
    : Type 0 where
  pub ok : IfOk result (λ status. IfSome all (IsListed first new status))
  pub input : IsErrOf result ProgramFaults.Input → IfSome all (HasFirstLines first new)
  pub output : IsErrOf result ProgramFaults.Output → IfSome all (IsPartOfListing first new)

answer : (all first new : Option (List ℕ)) (result : Result ℕ ProgramFault)
    → IfSome all (λ bytes. IsAfterEnd bytes first new result) → IsAnswer all first new result
answer all first new (Ok status) h =
    record { ok = h; input = λ err. absurd (cc err); output = λ err. absurd (cc err) }
answer all first new (Err ProgramFaults.Output) h =
    record { ok = tt; input = λ err. absurd (cc err); output = λ err. h }
answer None first new (Err ProgramFaults.Input) h =
    record { ok = tt; input = λ err. tt; output = λ err. tt }
answer (Some bytes) first new (Err ProgramFaults.Input) h = absurd h

module _ (a b : Option (List ℕ)) (taken : List ℕ) (consumed : Consumes a b taken)
    (first new : Option (List ℕ)) where
  -- after a read of no bytes
  pub answer_at_end : (c : Option (List ℕ)) (buffer : List ℕ) (n : ℕ)
      → Consumes b c (take n buffer) × (n ≡ 0 → 0 < length buffer → IsAtEnd c) → n ≡ 0
      → 0 < length buffer → (result : Result ℕ ProgramFault)
      → IsAfterEnd taken first new result → IsAnswer a first new result
  answer_at_end c buffer n read none room result h =
      let end = read_end a b c taken buffer n consumed read none room in
      answer a first new result
      (at_end a c taken (λ bytes. IsAfterEnd bytes first new result) end.0 end.1 h)

  -- after a piece whose lines are the last
  pub answer_before_end : (c : Option (List ℕ)) (piece : List ℕ) → Consumes b c piece
      → (lines : JournalLines) (result : Result ℕ ProgramFault)
      → IsAfterPiece (taken ++ piece) lines first new (some_status result)
      → IsAnswer a first new result
  answer_before_end c piece read lines result h =
      answer a first new result
      (of_all a c (taken ++ piece) (λ bytes. IsAfterEnd bytes first new result)
      (Consumes-trans a b c taken piece consumed read)
      (before_end (taken ++ piece) lines first new result h))

  -- after a read that failed
  pub answer_input : (lines : JournalLines) (text : List ℕ) → HasGiven lines taken text
      → Appends first new text → IfSome a (HasFirstLines first new)
  answer_input lines text given had =
      of_all a b taken (HasFirstLines first new) consumed
      (λ more. (text, first_given lines taken text more given, had))
