-- What the bytes beside a cell say.
use Rattle.std.proofs.Common.{◌≡◌, ℕ, List, Option, Some, None, sym, ap, subst, ◌∙◌}
use Rattle.std.specs.Prelude.{◌↔◌}
use Rattle.std.specs.Int.{w64, to_be_bytes}
use Rattle.fields.specs.Checksums.{with_checksum, without_checksum}
use Rattle.fields.proofs.Checksums.{without_again, without_taken}
use Rattle.cell_file.specs.SyncedTexts.{synced_text}

same_front : (front text : List ℕ) → ◌≡◌ {A = Option (List ℕ)} (Some front) (Some text)
    → front ≡ text
same_front front text e = cc e

-- the checksum of bytes that say a length is right
right : (length : ℕ) (bytes : List ℕ) → bytes ≡ synced_text length
    → without_checksum bytes ≡ Some (to_be_bytes w64 length)
right length bytes is =
    ap without_checksum is ∙ without_again (to_be_bytes w64 length)

pub some_said : (bytes front : List ℕ) (result : Option ℕ) (length : ℕ)
    → without_checksum bytes ≡ Some front
    → (result ≡ Some length) ↔ (front ≡ to_be_bytes w64 length)
    → (result ≡ Some length) ↔ (bytes ≡ synced_text length)
some_said bytes front result length sound says = (
  λ is. without_taken front bytes sound ∙ ap with_checksum (says.0 is),
  λ is. says.1 (same_front front (to_be_bytes w64 length) (sym sound ∙ right length bytes is)),
)

pub none_said : (bytes : List ℕ) (length : ℕ) → without_checksum bytes ≡ None
    → (◌≡◌ {A = Option ℕ} None (Some length)) ↔ (bytes ≡ synced_text length)
none_said bytes length unsound = (
  λ is. absurd (cc is),
  λ is. absurd (cc (sym unsound ∙ right length bytes is)),
)
