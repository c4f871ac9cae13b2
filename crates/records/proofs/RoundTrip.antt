-- A record is decoded as it is encoded.
use Rattle.std.proofs.Common.{◌≡◌, ℕ, ◌^◌, ◌<◌, ◌≤◌, false, cond, eqb, List, [], ◌++◌, length}
use Rattle.std.proofs.Common.{Option, Some, refl, sym, subst, arith, inl, inr}
use Rattle.std.specs.Int.{w32, to_be_bytes}
use Rattle.std.proofs.lemmas.Bool.{eqb-true}
use Rattle.std.proofs.lemmas.Bool.Decides.{eqb_tells}
use Rattle.std.proofs.lemmas.List.{append-nil, nil_from_length}
use Rattle.fed_types.specs.Values.{IsRound, IsBallot, IsBag, IsVote}
use Rattle.fields.specs.Encoding.{bag_bytes, ballot_bytes, vote_bytes, slot_bytes}
use Rattle.fields.specs.Decoders.{◌>>=◌, meant, byte_at, number_at, ballot_at, bag_at, vote_at}
use Rattle.fields.specs.Decoders.{slot_at}
use Rattle.fields.proofs.Bytes.{IsBytes, bind_some, some_is, past_test, in_test, Takes, Reads}
use Rattle.fields.proofs.Bytes.{meant_taken, meant_again, meant_read}
use Rattle.fields.proofs.Fields.{byte_read, number32_read, ballot_read, bag_read, vote_read}
use Rattle.fields.proofs.Fields.{slot_read}
use Rattle.records.specs.Numbers.{deposit_code, round_code, promise_code, vote_code, known_code}
use Rattle.records.specs.declared.entry.Entry.{Entry}
use Rattle.records.specs.declared.entry.Entry.TheVariants.{Deposit, Round, Promise, Vote, Known}
use Rattle.records.specs.declared.record.Record.{Record}
use Rattle.records.specs.Layout.{kind_code, entry_bytes, content_bytes}
use Rattle.records.specs.Records.{IsEntry, IsRecord}
use Rattle.records.specs.inner.Decoders.{round_of, round_at, entry_at, at_end, content_at}

round_read : Reads round_at (to_be_bytes w32) IsRound
unfolding round_at
round_read = meant_read (number_at w32) (to_be_bytes w32) (λ n. n < 2 ^ 32) round_of (λ n. n)
    IsRound number32_read (record {
      forth = λ x y fits h e.
          let g = past_test (eqb x 0) (Some x) y e in
          let same : x ≡ y = some_is x y g.1 in
          let nonzero : 1 ≤ x = grind (arith, eqb_tells, g.0) in
          subst (λ (n : ℕ). (x ≡ n) × IsRound n) same (refl, (nonzero, h));
      back = λ y h.
          let z : eqb y 0 ≡ false = grind (arith, eqb_tells, h.0) in
          (h.1, rw z refl);
    })

-- what was read as the entry of a kind
abbrev IsRead : ℕ → List ℕ → List ℕ → Entry → Type 0
IsRead kind bytes rest e = Takes bytes (entry_bytes e) rest × (kind ≡ kind_code e) × IsEntry e

-- an entry of one kind
made : {A : Type 0} {r : List ℕ → Option (A × List ℕ)} {s : A → List ℕ} {F : A → Type 0}
    (kind : ℕ) (con : A → Entry) → Reads r s F
    → ((a : A) → (kind ≡ kind_code (con a)) × (s a ≡ entry_bytes (con a)) × (F a → IsEntry (con a)))
    → (bytes : List ℕ) (e : Entry) (rest : List ℕ) → IsBytes bytes
    → meant r (λ a. Some (con a)) bytes ≡ Some (e, rest) → IsRead kind bytes rest e
made {r} {s} {F} kind con reads is bytes e rest fits h =
    let m = meant_taken r s F (λ a. Some (con a)) reads bytes e rest fits h in
    let same : con m.0 ≡ e = some_is (con m.0) e m.1 in
    let i = is m.0 in
    rw (← same) (rw i.1 at m.2, i.0, i.2 m.3)

abbrev Decodes : ℕ → List ℕ → List ℕ → Entry → Type 0
Decodes kind bytes rest e = entry_at kind bytes ≡ Some (e, rest)

-- what was read as an entry of the kind of this code, or as one of the kinds after it
by_code : {kind : ℕ} {bytes rest : List ℕ} {e : Entry} {r after : Option (Entry × List ℕ)}
    (code : ℕ) → (r ≡ Some (e, rest) → IsRead code bytes rest e)
    → (after ≡ Some (e, rest) → IsRead kind bytes rest e)
    → cond (eqb kind code) r after ≡ Some (e, rest) → IsRead kind bytes rest e
by_code {kind} {bytes} {rest} {e} {r} {after} code here there h =
    elim (eqb_tells kind code) [
      | inl t ↦ subst (λ (k : ℕ). IsRead k bytes rest e) (sym t.1) (here (rw t.0 at h))
      | inr f ↦ there (rw f.0 at h)
    ]

entry_taken : (kind : ℕ) (bytes : List ℕ) (e : Entry) (rest : List ℕ) → IsBytes bytes
    → Decodes kind bytes rest e → IsRead kind bytes rest e
unfolding entry_at
entry_taken kind bytes e rest fits =
    by_code deposit_code
    (made deposit_code Deposit bag_read (λ a. (refl, refl, λ f. f)) bytes e rest fits)
    (by_code round_code
    (made round_code Round round_read (λ a. (refl, refl, λ f. f)) bytes e rest fits)
    (by_code promise_code
    (made promise_code Promise ballot_read (λ a. (refl, refl, λ f. f)) bytes e rest fits)
    (by_code vote_code
    (made vote_code Vote vote_read (λ a. (refl, refl, λ f. f)) bytes e rest fits)
    (by_code known_code
    (made known_code Known bag_read (λ a. (refl, refl, λ f. f)) bytes e rest fits)
    (λ h. absurd (cc h))))))

entry_again : (e : Entry) (rest : List ℕ) → IsEntry e
    → Decodes (kind_code e) (entry_bytes e ++ rest) rest e
unfolding entry_at
entry_again (Deposit bag) rest h = meant_again bag_at bag_bytes IsBag (λ b. Some (Deposit b))
    bag_read bag (Deposit bag) rest h refl
entry_again (Round round) rest h =
    meant_again round_at (to_be_bytes w32) IsRound (λ n. Some (Round n)) round_read round
    (Round round) rest h refl
entry_again (Promise ballot) rest h =
    meant_again ballot_at ballot_bytes IsBallot (λ b. Some (Promise b)) ballot_read ballot
    (Promise ballot) rest h refl
entry_again (Vote vote) rest h = meant_again vote_at vote_bytes IsVote (λ v. Some (Vote v))
    vote_read vote (Vote vote) rest h refl
entry_again (Known bag) rest h = meant_again bag_at bag_bytes IsBag (λ b. Some (Known b)) bag_read
    bag (Known bag) rest h refl

pub content_taken : (bytes : List ℕ) (r : Record) → IsBytes bytes → content_at bytes ≡ Some r
    → (bytes ≡ content_bytes r) × IsRecord r
unfolding content_at
content_taken bytes r fits e =
    let k = bind_some (byte_at bytes) (λ kind. slot_at kind.1 >>= λ slot. entry_at kind.0 slot.1
    >>= λ body. at_end (record { slot = slot.0; body = body.0 }, body.1)) r e in
    let s = bind_some (slot_at k.0.1) (λ slot. entry_at k.0.0 slot.1
    >>= λ body. at_end (record { slot = slot.0; body = body.0 }, body.1)) r k.2 in
    let b = bind_some (entry_at k.0.0 s.0.1)
    (λ body. at_end (record { slot = s.0.0; body = body.0 }, body.1)) r s.2 in
    let made : Record = record { slot = s.0.0; body = b.0.0 } in
    let g = in_test (eqb (length b.0.1) 0) (Some made) r b.2 in
    let none : b.0.1 ≡ [] = nil_from_length b.0.1 (eqb-true _ _ g.0) in
    let tk = byte_read.taken bytes k.0.0 k.0.1 fits k.1 in
    let ts = slot_read.taken k.0.1 s.0.0 s.0.1 tk.0.rest_fits s.1 in
    let tb = entry_taken k.0.0 s.0.1 b.0.0 b.0.1 ts.0.rest_fits b.1 in
    let last : s.0.1 ≡ entry_bytes b.0.0 = rw (none, append-nil) at tb.0.parts in
    let middle : k.0.1 ≡ slot_bytes s.0.0 ++ entry_bytes b.0.0 = rw last at ts.0.parts in
    let whole : bytes ≡ content_bytes made = cc (tk.0.parts, middle, tb.1) in
    rw (← some_is made r g.1) (whole, (ts.1, tb.2))

pub content_again : (r : Record) → IsRecord r → content_at (content_bytes r) ≡ Some r
unfolding content_at
content_again r h =
    let b = rw append-nil at (entry_again r.body [] h.1) in
    rw (slot_read.again r.slot (entry_bytes r.body) h.0, b) refl
