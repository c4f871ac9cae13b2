-- What was taken of a reader so far, one piece after another.
use Rattle.std.proofs.Common.{◌≡◌, ℕ, ◌<◌, Bool, true, false, ◌&&◌, cond, nat_lt, List, [], ◌++◌}
use Rattle.std.proofs.Common.{length, append-nil, take, arith, Option, Some, None, Result, Ok, Err}
use Rattle.std.proofs.Common.{IfSome, refl, sym, ap, ◌∙◌, inl, inr}
use Rattle.std.proofs.lemmas.Bool.{ltb-true, lt-ltb}
use Rattle.std.proofs.lemmas.List.{length-append}
use Rattle.std.proofs.lemmas.Option.{cond_some}
use Rattle.std.specs.Prelude.{IfErr, IsErrAnd, IsErrOf}
use Rattle.std.specs.Io.KnownBytes.{Consumes, Keeps, IsAtEnd}
use Rattle.std.proofs.KnownBytes.{Consumes-trans, Consumes-kept}
use Rattle.bag_tree.specs.declared.fault.TreeFault.{TreeFault}
use Rattle.bag_tree.specs.declared.fault.TreeFault.TheVariants.{TextTooLong, Memory}
use Rattle.bag_tree.specs.Facts.{FileFact, fact_by}
use Rattle.bag_tree.specs.Fault.{RefusesFor}
use Rattle.bag_tree.specs.Path.{is_read_text}
use Rattle.bag_tree.specs.Tree.{File, longest_text, fault_of_text}
use Rattle.bag_tree.specs.declared.algorithms.Algorithms.{Algorithms}
use Rattle.bag_folders.specs.Pieces.{Hashed, with_piece, hashed_with, IsReadFault}

-- the file that is hashed has this path, its bytes are what the reader gave since it had these, and
-- it fits
pub record Taken (file : File) (path : List ℕ) (had has : Option (List ℕ)) : Type 0 where
  pub named : file.path ≡ path
  pub gave : Consumes had has file.bytes
  pub fits : fault_of_text path file.bytes ≡ None

-- what the reader had at first is all that the file has
whole : (file : File) (had has now : Option (List ℕ)) → Consumes had has file.bytes
    → Consumes has now [] → IsAtEnd now → IfSome had (λ all. all ≡ file.bytes)
whole file None has now t c e = tt
whole file (Some all) None now t c e = absurd t
whole file (Some all) (Some rest) None t c e = absurd c
whole file (Some all) (Some rest) (Some left) t c e =
    t ∙ (ap (λ r. file.bytes ++ r) (c ∙ e) ∙ append-nil file.bytes)

-- the reader gave nothing more, and there was room for it
pub taken_end : (file : File) (path : List ℕ) (had has now : Option (List ℕ)) (count : ℕ)
    (room : List ℕ) → Taken file path had has → count ≡ 0 → 0 < length room
    → Consumes has now (take count room) × (count ≡ 0 → 0 < length room → IsAtEnd now)
    → IfSome had (λ all. all ≡ file.bytes)
taken_end file path had has now count room t e l p =
    whole file had has now t.gave (rw e at p.0) (p.1 e l)

-- so the facts of that file are those of all that the reader had, which fits
pub taken_facts : (hashed : Hashed) (wanted : Algorithms) (path : List ℕ)
    (had has : Option (List ℕ)) (facts : FileFact)
    → Taken hashed.file path had has → hashed.wanted ≡ wanted
    → facts ≡ fact_by hashed.wanted hashed.file
    → IfSome had (λ all. all ≡ hashed.file.bytes)
    → IfSome had (λ all. facts ≡ fact_by wanted record { path = path; bytes = all })
taken_facts hashed wanted path None has facts t v e w = tt
taken_facts hashed wanted path (Some all) has facts t v e w = rw (w, ← t.named, ← v) e

pub taken_fits : (file : File) (path : List ℕ) (had has : Option (List ℕ)) → Taken file path had has
    → IfSome had (λ all. all ≡ file.bytes)
    → IfSome had (λ all. fault_of_text path all ≡ None)
taken_fits file path None has t w = tt
taken_fits file path (Some all) has t w = rw w t.fits

-- a piece more was fed
pub taken_more : (file fed : File) (path : List ℕ) (had has now : Option (List ℕ)) (piece : List ℕ)
    → Taken file path had has → Consumes has now piece
    → fed ≡ with_piece file piece → fault_of_text file.path (file.bytes ++ piece) ≡ None
    → Taken fed path had now
taken_more file fed path had has now piece t c e fits =
    rw e (record {
      named = t.named;
      gave = Consumes-trans had has now file.bytes piece t.gave c;
      fits = rw t.named at fits;
    })

-- the same of what is hashed, and of what is wanted of it
pub hashed_more : (hashed fed : Hashed) (wanted : Algorithms) (path : List ℕ)
    (had has now : Option (List ℕ)) (piece : List ℕ)
    → Taken hashed.file path had has × (hashed.wanted ≡ wanted) → Consumes has now piece
    → fed ≡ hashed_with hashed piece
    → fault_of_text hashed.file.path (hashed.file.bytes ++ piece) ≡ None
    → Taken fed.file path had now × (fed.wanted ≡ wanted)
hashed_more hashed fed wanted path had has now piece t c e fits = (
  taken_more hashed.file fed.file path had has now piece t.0 c (ap (λ h. h.file) e) fits,
  rw e t.1,
)

-- a read failed, and none of the bytes was lost
pub taken_kept : (file : File) (path : List ℕ) (had has now : Option (List ℕ))
    → Taken file path had has → Keeps has now → Taken file path had now
taken_kept file path had has now t k =
    record { named = t.named; gave = Consumes-kept had has now file.bytes t.gave k; fits = t.fits }

-- ---- what a refused piece means

longer-stays : (bytes more : List ℕ) → nat_lt longest_text (length bytes) ≡ true
    → nat_lt longest_text (length (bytes ++ more)) ≡ true
longer-stays bytes more h =
    let less = ltb-true longest_text (length bytes) h in
    lt-ltb longest_text (length (bytes ++ more)) (omega (arith, less, length-append bytes more))

too_long-longer : (path bytes more : List ℕ) → fault_of_text path bytes ≡ Some TextTooLong
    → fault_of_text path (bytes ++ more) ≡ Some TextTooLong
too_long-longer path bytes more h =
    go (is_read_text path) (nat_lt longest_text (length bytes))
    (nat_lt longest_text (length (bytes ++ more))) (longer-stays bytes more) h
  where
    go : (reads short long : Bool) → (short ≡ true → long ≡ true)
        → cond (reads && short) (Some TextTooLong) None ≡ Some TextTooLong
        → cond (reads && long) (Some TextTooLong) None ≡ Some TextTooLong
    go true true long stays h = rw (stays refl) refl
    go true false long stays h = absurd (cc h)
    go false short long stays h = absurd (cc h)

-- where a beginning of a text is too long, the whole is
pub refused_too_long : (file : File) (path piece : List ℕ) (had has now : Option (List ℕ))
    (fault : TreeFault) → Taken file path had has → Consumes has now piece
    → RefusesFor {T = Unit {0}} (fault_of_text file.path (file.bytes ++ piece)) (Err fault)
    → fault ≡ TextTooLong → IfSome had (λ all. fault_of_text path all ≡ Some TextTooLong)
refused_too_long file path piece had has now fault t d h e =
    go had now (Consumes-trans had has now file.bytes piece t.gave d)
    (rw t.named at (rw e at h))
  where
    go : (had now : Option (List ℕ)) → Consumes had now (file.bytes ++ piece)
        → fault_of_text path (file.bytes ++ piece) ≡ Some TextTooLong
        → IfSome had (λ all. fault_of_text path all ≡ Some TextTooLong)
    go None now c h = tt
    go (Some all) None c h = absurd c
    go (Some all) (Some left) c h = rw c (too_long-longer path (file.bytes ++ piece) left h)

-- feeding a piece is refused for these faults alone
pub refused_as : (path bytes : List ℕ) (fault : TreeFault)
    → RefusesFor {T = Unit {0}} (fault_of_text path bytes) (Err fault) → IsReadFault fault
refused_as path bytes fault h =
    go (fault_of_text path bytes)
    (λ found e. sym (cond_some (is_read_text path && nat_lt longest_text (length bytes))
    TextTooLong found e).1) fault h
  where
    go : (found : Option TreeFault)
        → ((fault : TreeFault) → found ≡ Some fault → fault ≡ TextTooLong)
        → (fault : TreeFault) → RefusesFor {T = Unit {0}} found (Err fault) → IsReadFault fault
    go found only Memory h = inr (inr refl)
    go found only TextTooLong h = inl refl
    go found only other h = inl (only other h)

-- ---- a fault that is passed on

pub passed_on : {T : Type 0} (result : Result T TreeFault) (fault : TreeFault)
    (P : TreeFault → Type 0) → IsErrAnd result (λ e. e ≡ fault) → P fault → IfErr result P
passed_on (Ok done) fault P h p = tt
passed_on (Err e) fault P h p = rw h p

pub passed_on_as : {T : Type 0} (result : Result T TreeFault) (fault other : TreeFault)
    → IsErrAnd result (λ e. e ≡ fault) → IsErrOf result other → fault ≡ other
passed_on_as (Ok done) fault other h o = absurd h
passed_on_as (Err e) fault other h o = let same : e ≡ other = cc o in sym h ∙ same
