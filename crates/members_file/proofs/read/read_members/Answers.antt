use Rattle.std.proofs.Common.{◌≡◌, ℕ, [], ◌∷◌, length, refl, sym, ap, ◌∙◌, subst, inl, inr, arith}
use Rattle.std.specs.Str.Lines.{lines}
use Rattle.std.proofs.lemmas.Bool.{cases_lt, false≢true}
use Rattle.std.proofs.lemmas.Result.{err_from_is_err_and}
use Rattle.fed_types.specs.Sites.{Membership}
use Rattle.tokens.specs.Words.{words_of}
use Rattle.members_file.specs.declared.members_fault.MembersFault.TheVariants.{Line}
use Rattle.members_file.specs.Files.{HasFault, weights_of}
use Rattle.members_file.specs.Lines.{federation_in}
use Rattle.members_file.proofs.ReadLemmas.{fault_from_ok_or, fault_of_none, fault_of_first}
use Rattle.members_file.proofs.ReadLemmas.{fault_after, AreListed-read, weights-fit, weights-some}
use Rattle.members_file.proofs.read.read_members.Goals as goal
use Rattle.members_file.proofs.read.read_members.Goals.{After-parse_federation, After-deref-3}

pub returns-in_err-first : goal.returns-in_err-first
returns-in_err-first c =
    let f =
    fault_from_ok_or c.first_line.result (Line 1) c.in_err-first.field-0.0
    c.in_err-first.ensures.value in
    let p = err_from_is_err_and c.from_residual.result c.from_residual.ensures.1 in
    let none : lines c.args.text.now ≡ [] = rw f.0 at c.first_line.ensures.value in
    rw (p.1, p.2, f.1) (fault_of_none c.args.text.now none)

-- the first line
first_is : (c : After-parse_federation)
    → lines c.args.text.now ≡ c.in_ok-first.first.now ∷ lines c.in_ok-first.after.now
first_is c = rw c.in_ok-first.ensures.ok_part at c.first_line.ensures.value

-- the federation that its words name
federation_is : (c : After-parse_federation)
    → federation_in (words_of c.in_ok-first.first.now) ≡ c.parse_federation.result
federation_is c =
    let words = rw (← c.deref.ensures.value) at c.in_ok-words.ensures.value in
    rw (c.parse_federation.ensures, words)

-- the weights are those of the sites
weights_are : (c : After-deref-3) → c.deref-3.result.now ≡ weights_of c.in_ok-sites.sites.items
weights_are c =
    rw (c.deref-3.ensures.value, ← c.deref-2.ensures.value) c.in_ok-weights.ensures

pub returns-in_err-federation : goal.returns-in_err-federation
returns-in_err-federation c =
    let f =
    fault_from_ok_or c.parse_federation.result (Line 1) c.in_err-federation.field-0.0
    c.in_err-federation.ensures.value in
    let p =
    err_from_is_err_and c.from_residual-in_err-federation.result
    c.from_residual-in_err-federation.ensures.1 in
    let at = (goal.at.returns-in_err-federation c).After-parse_federation in
    rw (p.1, p.2, f.1)
    (fault_of_first c.args.text.now c.in_ok-first.first.now (lines c.in_ok-first.after.now)
    (first_is at) (federation_is at ∙ f.0))

pub returns-in_default : goal.returns-in_default
returns-in_default c =
    let at = goal.at.returns-in_default c in
    let sites = c.in_ok-sites.sites.items in
    let none : length sites ≡ 0 =
    elim (cases_lt 0 (length sites)) [
      | inl some ↦ absurd
          (false≢true (c.in_default.ensures.ok.1
          (rw (weights_are at.After-deref-3) (weights-fit c.in_ok-sites.ensures some))))
      | inr zero ↦ omega arith
    ] in
    subst (λ (n : ℕ). HasFault c.args.text.now n) (omega arith)
    (fault_after c.args.text.now c.in_ok-first.first.now (lines c.in_ok-first.after.now)
    (lines c.in_ok-sites.rest.now) c.in_ok-federation.federation sites
    (first_is at.After-parse_federation)
    (federation_is at.After-parse_federation ∙ c.in_ok-federation.ensures.ok_part)
    c.in_ok-sites.ensures (λ ends. omega (arith, ends.0)))

pub returns-then-not-branch : goal.returns-then-not-branch
returns-then-not-branch c =
    let at = (goal.at.returns-then-not-branch c).After-parse_federation in
    subst (λ (n : ℕ). HasFault c.args.text.now n) (omega (arith, c.len.ensures))
    (fault_after c.args.text.now c.in_ok-first.first.now (lines c.in_ok-first.after.now)
    (lines c.in_ok-sites.rest.now) c.in_ok-federation.federation c.in_ok-sites.sites.items
    (first_is at) (federation_is at ∙ c.in_ok-federation.ensures.ok_part) c.in_ok-sites.ensures
    (λ ends. cc (c.in_ok-is_blank.ensures, c.if-not-branch.true, ends.1)))

pub new-requires-clause-sites : goal.new-requires-clause-sites
new-requires-clause-sites c =
    let weights = weights_are (goal.at.new-requires-clause-sites c).After-deref-3 in
    AreListed-read c.in_ok-sites.ensures
    (weights-some c.in_ok-sites.sites.items (rw weights at (c.in-Ok.ensures.ok.0 refl).0))

pub returns : goal.returns
returns c =
    let at = (goal.at.returns c).After-parse_federation in
    let federation : c.in-Ok.members.federation ≡ c.in_ok-federation.federation =
    ap (λ (m : Membership). m.federation) c.in-Ok.ensures.value in
    let weights = weights_are (goal.at.returns c).After-deref-3 in
    rw (c.new.ensures, federation) (record {
      first = c.in_ok-first.first.now;
      named = c.in_ok-sites.ensures.named;
      rest = lines c.in_ok-sites.rest.now;
      is = rw (← c.in_ok-sites.ensures.is) (first_is at);
      federation = federation_is at ∙ c.in_ok-federation.ensures.ok_part;
      sites = c.in_ok-sites.ensures.sites;
      some = weights-some c.in_ok-sites.sites.items (rw weights at (c.in-Ok.ensures.ok.0 refl).0);
      blank = sym c.in_ok-is_blank.ensures ∙ c.if-not-branch.false;
    })
