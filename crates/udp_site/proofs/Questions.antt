-- Members that are asked for a slot's bag, one after another.
use Rattle.std.proofs.Common.{◌≡◌, ℕ, ◌==◌, true, false, not, inl, inr, List, [], ◌∷◌, ◌++◌, map}
use Rattle.std.proofs.Common.{Option, Result, Ok, Err, refl, sym, append_assoc, append-nil, OnOk}
use Rattle.std.proofs.Common.{flat_map}
use Rattle.std.proofs.lemmas.List.Elements.{filter-append}
use Rattle.std.proofs.lemmas.List.{map-append}
use Rattle.fed_types.specs.Sites.{members_of}
use Rattle.fed_types.specs.Slots.{SlotName}
use Rattle.dgram.specs.declared.body.Body.TheVariants.{Ask}
use Rattle.dgram.specs.Encoding.{datagram_of}
use Rattle.cell_device.specs.Devices.{Device}
use Rattle.proposer.specs.VolatileStates.{VolatileState}
use Rattle.site.specs.declared.answer.Answer.{Answer}
use Rattle.site.specs.declared.answer.Outgoing.{Outgoing}
use Rattle.site.specs.declared.fault.SiteFault.TheVariants as sites
use Rattle.site.specs.Answered.{IsAnswered}
use Rattle.site.specs.Calls as calls
use Rattle.site.specs.Calls.{on_ask}
use Rattle.site.specs.Datagrams.{handed_out}
use Rattle.site.specs.Effects.{to_each}
use Rattle.site.specs.Sites.{OpenSite, Represents, effect}
use Rattle.lines.specs.declared.line.Line.{Line}
use Rattle.lines.specs.declared.notice.Notice.{Notice}
use Rattle.lines.specs.declared.notice.Notice.TheVariants.{Refused}
use Rattle.std.specs.declared.alloc.AllocError.{AllocError}
use Rattle.udp_site.specs.Traffic.{Move}
use Rattle.udp_site.specs.Turns.{Serving, Done, IsServing, Asks, members, number, posts_to}
use Rattle.udp_site.specs.Turns.{outgoing_posts}
use Rattle.udp_site.specs.inner.Others.{others_of}
use Rattle.udp_site.specs.inner.Outcomes.{AsksFor, Hands, Notes}
use Rattle.udp_site.proofs.Handed.{grows_by_no_posts, grows_by_posts, part_of_posts}
use Rattle.udp_site.proofs.Handed.{then_part_of_posts}
use Rattle.udp_site.proofs.Growth.{Grows-none}
use Rattle.udp_site.proofs.Requested.{could_ask}

abbrev pub nothing : Done
nothing = record { posts = []; notices = [] }

-- this, and then that
abbrev pub both : Done → Done → Done
both one two = record {
  posts = one.posts ++ two.posts;
  notices = one.notices ++ two.notices;
}

-- lines of both
pub notes_both : (l1 l2 l3 : List Line) (one two : List Notice) → Notes l1 l2 one → Notes l2 l3 two
    → Notes l1 l3 (one ++ two)
notes_both l1 l2 l3 one two p q = rw (q, p, append_assoc, map-append)

-- the posts of an answer, by what is handed out
posts_by : (addresses : List ℕ) (items : List Outgoing)
    → flat_map (outgoing_posts addresses) items
    ≡ flat_map (λ (out : ℕ × List ℕ). posts_to addresses out.0 out.1) (map handed_out items)
posts_by addresses [] = refl
posts_by addresses (x ∷ items) = rw (posts_by addresses items)

module _ {C : Type 0} (addresses : List ℕ) (s : Serving C) (slot : SlotName) where
  asks_both : (xs ys : List ℕ) (one two : Done) → Asks addresses s slot xs one
      → Asks addresses s slot ys two → Asks addresses s slot (xs ++ ys) (both one two)
  asks_both [] ys one two p q = rw p q
  asks_both (x ∷ xs) ys one two (rest, asks, inl e) q =
      (both rest two, asks_both xs ys rest two asks q, inl (rw (e, append_assoc)))
  asks_both (x ∷ xs) ys one two (rest, asks, inr e) q =
      (both rest two, asks_both xs ys rest two asks q, inr (rw e))

  pub asks_none : (a : Option (List Move)) (lines : List Line)
      → AsksFor addresses s slot [] a a lines lines (Ok tt)
  asks_none a lines = (nothing, refl, grows_by_no_posts a, sym (append-nil lines))

  -- these were asked, and then those
  asks_then : (xs ys : List ℕ) (a b c : Option (List Move)) (l1 l2 l3 : List Line)
      → AsksFor addresses s slot xs a b l1 l2 (Ok tt) → (r : Result (Unit {0}) AllocError)
      → AsksFor addresses s slot ys b c l2 l3 r → AsksFor addresses s slot (xs ++ ys) a c l1 l3 r
  asks_then xs ys a b c l1 l2 l3 (one, asks, handed, said) (Ok whole)
      (two, asks2, handed2, said2) = (
        both one two,
        asks_both xs ys one two asks asks2,
        grows_by_posts _ _ _ _ _ handed handed2,
        notes_both l1 l2 l3 one.notices two.notices said said2,
      )
  asks_then xs ys a b c l1 l2 l3 (one, asks, handed, said) (Err e)
      (two, asks2, count, more) =
      let part = then_part_of_posts _ _ _ _ _ handed (count, more) in
      (both one two, asks_both xs ys one two asks asks2, part.0, part.1)

  -- memory ran out among these, and so among these and those
  asks_before : (xs ys : List ℕ) (a b : Option (List Move)) (l1 l2 l3 : List Line)
      → (fault : AllocError) → AsksFor addresses s slot xs a b l1 l2 (Err fault)
      → AsksFor addresses s slot (xs ++ ys) a b l1 l3 (Err fault)
  asks_before xs ys a b l1 l2 l3 fault (one, asks, count, handed) =
      let two = could_ask addresses s slot ys in
      let part = part_of_posts _ _ one.posts two.0.posts (count, handed) in
      (both one two.0, asks_both xs ys one two.0 asks two.1, part.0, part.1)

  -- ---- one of them

  -- those of one that are others
  pub not_asked : (member : ℕ) → (member == number s) ≡ true → (a : Option (List Move))
      → (lines : List Line)
      → AsksFor addresses s slot (others_of s (member ∷ [])) a a lines lines (Ok tt)
  not_asked member is a lines = rw is (asks_none a lines)

  -- memory ran out for this one, and a line says so
  abbrev refused_one : Done
  refused_one = record { posts = []; notices = Refused (number s) sites.Memory ∷ [] }

  refuses_one : (member : ℕ) → Asks addresses s slot (member ∷ []) refused_one
  refuses_one member = (nothing, refl, inr refl)

  module _ (member : ℕ) (is_other : (member == number s) ≡ false) where
    -- a line says so; or memory ran out for that
    pub isnt_asked : (a : Option (List Move)) (l1 l2 : List Line)
        → (r : Result (Unit {0}) AllocError) → OnOk r (Notes l1 l2
        (Refused (number s) sites.Memory ∷ []))
        → AsksFor addresses s slot (others_of s (member ∷ [])) a a l1 l2 r
    isnt_asked a l1 l2 (Ok x) said =
        rw is_other (refused_one, refuses_one member, grows_by_no_posts a, said)
    isnt_asked a l1 l2 (Err e) said =
        rw is_other (refused_one, refuses_one member, 0, Grows-none a)

    -- the datagram of the answer was handed out
    module _ (device : C → Device) (start : OpenSite C) (there : s.site ≡ start)
        (serves : IsServing s) (opened : start.book.needs_opening ≡ false) (answer : Answer)
        (answers : start.book.needs_opening ≡ false → (volatile : VolatileState)
        → Represents start volatile
        → IsAnswered device start start volatile
        (effect start volatile (calls.Asks slot member)) (Ok answer)) where
      abbrev question : List ℕ
      question = datagram_of (members s).federation (record { slot = slot; body = Ask (number s) })

      answered : IsAnswered device s.site s.site s.volatile
          (effect s.site s.volatile (calls.Asks slot member)) (Ok answer)
      answered =
          let opened_there : s.site.book.needs_opening ≡ false = rw there opened in
          (rw (← there) at answers) opened_there s.volatile (serves opened_there)

      one_datagram : map handed_out answer.sends.items ≡ (member, question) ∷ []
      unfolding on_ask to_each
      one_datagram = answered.gives.1

      abbrev asked_one : Done
      asked_one = record {
        posts = flat_map (outgoing_posts addresses) answer.sends.items;
        notices = [];
      }

      asks_one : Asks addresses s slot (member ∷ []) asked_one
      asks_one = (nothing, refl, inl (rw (posts_by addresses answer.sends.items, one_datagram)))

      -- in part, where memory ran out
      pub asks_by : (a b : Option (List Move)) (lines : List Line)
          → (r : Result (Unit {0}) AllocError)
          → Hands a b (flat_map (outgoing_posts addresses) answer.sends.items) r
          → AsksFor addresses s slot (others_of s (member ∷ [])) a b lines lines r
      asks_by a b lines (Ok whole) handed =
          rw is_other (asked_one, asks_one, handed, sym (append-nil lines))
      asks_by a b lines (Err e) part =
          rw is_other (asked_one, asks_one, part.0, part.1)

-- ---- all of them

module _ {C : Type 0} (addresses : List ℕ) (s : Serving C) (slot : SlotName) where
  others_both : (xs ys : List ℕ) → others_of s (xs ++ ys) ≡ others_of s xs ++ others_of s ys
  others_both xs ys = filter-append (λ (member : ℕ). not (member == number s)) xs ys

  -- the others of all members but those that are left were asked
  abbrev pub AskedBut : List ℕ → (before after : Option (List Move)) → (old new : List Line)
      → Type 0
  AskedBut left a b l1 l2 =
      (asked : List ℕ) × (asked ++ left ≡ members_of (members s))
      × AsksFor addresses s slot (others_of s asked) a b l1 l2 (Ok tt)

  pub nobody_asked : (left : List ℕ) → left ≡ members_of (members s) → (a : Option (List Move))
      → (lines : List Line) → AskedBut left a a lines lines
  nobody_asked left all a lines = ([], all, asks_none addresses s slot a lines)

  pub all_asked : (a b : Option (List Move)) (l1 l2 : List Line) (left : List ℕ) → left ≡ []
      → AskedBut left a b l1 l2
      → AsksFor addresses s slot (others_of s (members_of (members s))) a b l1 l2 (Ok tt)
  all_asked a b l1 l2 left none (asked, all, asks) = rw (← all, none, append-nil asked) asks

  -- the next of those that are left
  module _ (a b c : Option (List Move)) (l1 l2 l3 : List Line) (member : ℕ) (left rest : List ℕ)
      (next : left ≡ member ∷ rest) (before : AskedBut left a b l1 l2) where
    abbrev asked : List ℕ
    asked = before.0 ++ member ∷ []

    all_but : asked ++ rest ≡ members_of (members s)
    all_but = rw (append_assoc, ← next) before.1

    with_next : (r : Result (Unit {0}) AllocError)
        → AsksFor addresses s slot (others_of s (member ∷ [])) b c l2 l3 r
        → AsksFor addresses s slot (others_of s asked) a c l1 l3 r
    with_next r asks =
        rw (others_both before.0 (member ∷ []))
        (asks_then addresses s slot _ _ _ _ _ _ _ _ before.2 r asks)

    pub next_asked : AsksFor addresses s slot (others_of s (member ∷ [])) b c l2 l3 (Ok tt)
        → AskedBut rest a c l1 l3
    next_asked asks = (asked, all_but, with_next (Ok tt) asks)

    pub next_failed : (fault : AllocError)
        → AsksFor addresses s slot (others_of s (member ∷ [])) b c l2 l3 (Err fault)
        → AsksFor addresses s slot (others_of s (members_of (members s))) a c l1 l3 (Err fault)
    next_failed fault asks =
        rw (← all_but, others_both asked rest)
        (asks_before addresses s slot _ _ _ _ l1 l3 l3 fault (with_next (Err fault) asks))
