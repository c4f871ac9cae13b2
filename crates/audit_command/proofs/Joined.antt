-- One more cell was read.
use Rattle.std.proofs.Common.{◌≡◌, ℕ, ◌+◌, ◌<◌, List, [], ◌∷◌, ◌++◌, length, take, get_or}
use Rattle.std.proofs.Common.{append-nil, Bor}
use Rattle.std.proofs.Math.Bool.{and-true}
use Rattle.std.proofs.lemmas.List.{map_push, take_more}
use Rattle.std.proofs.lemmas.List.Elements.{All-push}
use Rattle.std.proofs.lemmas.Grind.{flat_map-append}
use Rattle.std.proofs.lemmas.List.Folds.{list_all-append}
use Rattle.std.specs.Prelude.{◌&&◌, is_none, map}
use Rattle.std.specs.List.{flat_map}
use Rattle.std.specs.String.{string_bytes}
use Rattle.fed_types.specs.Sites.{Membership}
use Rattle.audit_command.specs.declared.gathered.Gathered.{Gathered}
use Rattle.audit_command.specs.Audits.{IsRead, AreReadings}
use Rattle.audit_command.specs.Files.{Files}
use Rattle.audit_command.specs.Lines.{reading_line, use_line}
use Rattle.audit_command.specs.CellReadings.{Reading, all_given}
use Rattle.audit_command.specs.inner.Gathered.{IsEvidence, IsGathered}

-- a list of one more, joined
joined : {X A : Type 0} (f : X → List A) (xs : List X) (x : X)
    → flat_map f (xs ++ x ∷ []) ≡ flat_map f xs ++ f x
joined f xs x = rw (flat_map-append f xs (x ∷ []), append-nil)

pub one_reading : (members : Membership) (old new : Gathered) (readings : List Reading)
    (r : Reading) → IsGathered members old readings
    → IsEvidence members new.evidence (all_given readings ++ r.given)
    → string_bytes new.in_use ≡ string_bytes old.in_use ++ use_line r
    → string_bytes new.text ≡ string_bytes old.text ++ reading_line r
    → new.all_used ≡ (old.all_used && is_none r.fault)
    → IsGathered members new (readings ++ r ∷ [])
one_reading members old new readings r is evidence in_use text used = record {
  evidence = rw (joined (λ (r : Reading). r.given) readings r) evidence;
  in_use_is = rw (in_use, is.in_use_is, joined use_line readings r);
  text_is = rw (text, is.text_is, joined reading_line readings r);
  used = rw (
    used,
    is.used,
    list_all-append (λ (r : Reading). is_none r.fault) readings (r ∷ []),
    and-true,
  );
}

-- the file of one more path was read
pub next_path : (members : Membership) (files : Files) (paths : List (Bor (List ℕ))) (i : ℕ)
    (d : Bor (List ℕ)) (readings : List Reading) (r : Reading) → i < length paths
    → r.path ≡ (get_or paths i d).now
    → AreReadings members files (map (λ path. path.now) (take i paths)) readings
    → IsRead members files r
    → AreReadings members files (map (λ path. path.now) (take (i + 1) paths))
    (readings ++ r ∷ [])
next_path members files paths i d readings r within its are is = record {
  paths_are = rw (
    map_push (λ (r : Reading). r.path),
    take_more paths i d,
    map_push,
    are.paths_are,
    its,
  );
  read = All-push (IsRead members files) readings r are.read is;
}
