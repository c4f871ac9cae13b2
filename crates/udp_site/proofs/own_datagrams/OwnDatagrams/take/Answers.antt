use Rattle.std.proofs.Common.{◌∷◌, ◌∙◌, ◌++◌, take, drop, List, ℕ, sym, ap}
use Rattle.std.proofs.Math.Seq.{take-append_seam}
use Rattle.udp_site.specs.inner.OwnDatagrams.{waiting_of}
use Rattle.udp_site.proofs.own_datagrams.OwnDatagrams.take.Goals as goal

pub returns-clause-first : goal.returns-clause-first
returns-clause-first c =
    let bytes = c.in_ok-bytes.bytes.items in
    let rest = drop c.len-count.result c.args.buffer.now in
    let waiting = waiting_of record {
      address = c.args.self.now.address;
      waiting =
          c.pop_front.new.self;
    } in
    rw (
      c.in_ok-bytes.ensures.items,
      c.copy_from_slice.ensures.after,
      c.split_at_mut-front.ensures.back,
      c.deref.ensures.value,
    ) (
    ap (λ (first : List ℕ). first ∷ waiting)
    (sym (ap (λ (n : ℕ). take n (bytes ++ rest)) (c.len-count.ensures ∙ c.in_ok-bytes.bytes.ok.0)
    ∙ take-append_seam bytes rest))
    )
