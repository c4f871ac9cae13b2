-- What is told of a batch whose sync failed.
use Rattle.std.proofs.Common.{◌≡◌, ℕ, List, [], ◌∷◌, length, map, Option, Result, Ok, Err, refl}
use Rattle.std.proofs.Common.{◌∙◌, append-nil, OnOk, OnErr, flat_map}
use Rattle.std.specs.Io.KnownBytes.{Appends}
use Rattle.std.proofs.Math.Seq.{take-length}
use Rattle.std.specs.declared.alloc.AllocError.{AllocError}
use Rattle.book.specs.declared.waiting.Waiting.{Waiting}
use Rattle.site.specs.declared.fault.SiteFault.{SiteFault}
use Rattle.site.specs.Sites.{OpenSite}
use Rattle.lines.specs.declared.line.Line.{Line}
use Rattle.lines.specs.declared.notice.Notice.TheVariants.{Refused}
use Rattle.lines.specs.Texts.{line_text}
use Rattle.udp_site.specs.declared.fault.ServeFault.{ServeFault}
use Rattle.udp_site.specs.declared.turn.Turn.{Turn}
use Rattle.udp_site.specs.Traffic.{Post, Move, all_handed, taken}
use Rattle.udp_site.specs.Served.{by_identity}
use Rattle.udp_site.specs.BatchTurns.{refusals, refusal_text}
use Rattle.udp_site.specs.inner.Batched.{GrowsPart, AppendsPart, refused_turn}
use Rattle.udp_site.specs.inner.Outcomes.{Hands, Notes}
use Rattle.udp_site.proofs.Handed.{whole_part}
use Rattle.udp_site.proofs.Printed.{text_is}

-- so a part of them was handed out
pub part_handed : {T : Type 0} (a b : Option (List Move)) (posts : List Post)
    (result : Result T AllocError) → Hands a b posts result
    → GrowsPart a b (all_handed posts)
part_handed a b posts (Ok x) hands = whole_part _ _ _ hands
part_handed a b posts (Err e) part = part

-- each turn of a batch, by what it took
pub refused_turns : (site : OpenSite Waiting) (fault : SiteFault) (batch : List Turn)
    → flat_map (refused_turn site fault) batch ≡ refusals site fault (map taken batch)
refused_turns site fault [] = refl
refused_turns site fault (turn ∷ turns) = rw (refused_turns site fault turns)

-- the line was written, or a part of it
module _ (a b : Option (List ℕ)) (site : OpenSite Waiting) (fault : SiteFault)
    (start lines : List Line) (none : start ≡ [])
    (notes : Notes start lines (Refused site.book.owner.site fault ∷ [])) where
  text : flat_map (line_text by_identity) lines ≡ refusal_text site fault
  text =
      text_is start lines (Refused site.book.owner.site fault ∷ []) none notes
      ∙ append-nil (refusal_text site fault)

  pub line_written : (result : Result (Unit {0}) ServeFault)
      → OnOk result (Appends a b (flat_map (line_text by_identity) lines))
      → OnErr result (AppendsPart a b (flat_map (line_text by_identity) lines))
      → AppendsPart a b (refusal_text site fault)
  line_written (Ok x) all some =
      (length (refusal_text site fault), rw (take-length, ← text) all)
  line_written (Err e) all (count, some) = (count, rw (← text) some)
