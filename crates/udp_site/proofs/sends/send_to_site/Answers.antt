use Rattle.std.proofs.Common.{◌≡◌, ℕ, Option, ◌-◌, ◌≤◌, length, None, ap, sym, ◌∙◌, arith, is_some}
use Rattle.std.proofs.Common.{ltb}
use Rattle.std.proofs.lemmas.Bool.{ltb-false}
use Rattle.std.proofs.lemmas.Option.{slice_get_past}
use Rattle.udp_site.proofs.Handed.{grows_by_no_posts}
use Rattle.udp_site.proofs.sends.send_to_site.Goals as goal

none_past : {X : Type 0} (place length : ℕ) (found : Option X) → is_some found ≡ ltb place length
    → found ≡ None → length ≤ place
none_past place length found is none = ltb-false place length (sym is ∙ ap is_some none)

pub returns-in-None-clause-hands : goal.returns-in-None-clause-hands
returns-in-None-clause-hands g c =
    let past : length c.args.addresses.now ≤ c.args.site - 1 =
    omega (
      arith,
      none_past (c.from.result - 1)
          (length c.args.addresses.now) c.get.result c.get.ensures.lookup.0 c.in-None.is,
      c.from.ensures,
      c.number.ensures.value,
    ) in
    rw (slice_get_past c.args.addresses.now (c.args.site - 1) past) (grows_by_no_posts _)
