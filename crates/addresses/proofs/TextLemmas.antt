-- The texts of addresses.
use Rattle.std.proofs.Common.{◌≡◌, ◌↔◌, ℕ, zero, suc, ◌<◌, ◌%◌, ◌^◌, Bool, true, false, cond, ◌&&◌}
use Rattle.std.proofs.Common.{List, [], ◌∷◌, Option, Some, None, Result, Err}
use Rattle.std.proofs.Common.{refl, sym, ap, ◌∙◌, inl, inr, arith, append_assoc, decimal}
use Rattle.std.specs.Str.{bytes_eq}
use Rattle.std.specs.Int.{w32, w128, to_be_bytes}
use Rattle.std.specs.declared.net.socket_addr.SocketAddr.{SocketAddr}
use Rattle.std.specs.Net.Addr.{segments_of}
use Rattle.std.specs.Net.Grammar.{IsSocketText, Parses}
use Rattle.std.specs.Net.Text.{ipv4_text, ipv6_text}
use Rattle.std.proofs.NetLemmas.Texts.{IsDotted-ipv4_text, IsColonHex-ipv6_text}
use Rattle.std.proofs.NetLemmas.Texts.{IsPortText-decimal, IsScopeText-scope_text}
use Rattle.std.proofs.NetLemmas.Theorems.{IsSocketText_unique}
use Rattle.std.specs.Bool.{Decides}
use Rattle.std.proofs.lemmas.Bool.{cases_lt, false≢true}
use Rattle.std.proofs.lemmas.Slice.Eq.{bytes_eq-Decides}
use Rattle.addresses.specs.Addresses.{host_of, port_of}
use Rattle.addresses.specs.Texts.{ADDRESSES, IsTextOf, address_below, address_in, is_ipv4}
use Rattle.addresses.specs.Texts.{is_listable}
use Rattle.addresses.specs.Texts.{of_socket, socket_of, text_of}
use Rattle.addresses.proofs.BackLemmas.{address_back, bytes_small, segments_small}

-- the text of an address is one of its socket
pub spells : (a : ℕ) → IsSocketText (text_of a) (socket_of a)
unfolding text_of socket_of
spells a = go (is_ipv4 a) refl
  where
    go : (test : Bool) → is_ipv4 a ≡ test → IsSocketText (text_of a) (socket_of a)
    go true mapped =
        let four = to_be_bytes w32 (host_of a % 2 ^ 32) in
        rw mapped (
          ipv4_text four,
          58 ∷ decimal (port_of a),
          append_assoc (ipv4_text four) (58 ∷ []) (decimal (port_of a)),
          IsDotted-ipv4_text four refl (bytes_small 4 (host_of a % 2 ^ 32)),
          IsPortText-decimal (port_of a) (omega arith),
        )
    go false other =
        let all = segments_of (to_be_bytes w128 (host_of a)) in
        rw other (record {
          ip = ipv6_text all;
          scope = [];
          port = 58 ∷ decimal (port_of a);
          spelled = simp append_assoc;
          ip_text = IsColonHex-ipv6_text all refl
              (segments_small (to_be_bytes w128 (host_of a)) (bytes_small 16 (host_of a)));
          scope_text = IsScopeText-scope_text 0 (omega arith);
          port_text = IsPortText-decimal (port_of a) (omega arith);
          no_flowinfo = refl;
        })

-- a text of one socket alone is that of an address
pub socket_is : (text : List ℕ) (a : ℕ) (s : SocketAddr) → IsTextOf text a → IsSocketText text s
    → s ≡ socket_of a
socket_is text a s is reads =
    IsSocketText_unique text s (socket_of a) reads (rw is.written (spells a))

-- a text is that of one address
pub one_address : (text : List ℕ) (a b : ℕ) → IsTextOf text a → IsTextOf text b → a ≡ b
one_address text a b is also =
    let same : socket_of b ≡ socket_of a =
    socket_is text a (socket_of b) is (rw also.written (spells b)) in
    sym (address_back a is.in_range) ∙ ap of_socket (sym same) ∙ address_back b also.in_range

-- ---- the address that a text is

-- two texts that are the same
same_text : (a b : List ℕ) (test : Bool) → bytes_eq a b ≡ test → (test ≡ true) ↔ (a ≡ b)
same_text a b test is =
    let decides : Decides test (a ≡ b) = rw (← is) (bytes_eq-Decides a b) in decides

-- one that is found has the text
found : (n : ℕ) (text : List ℕ) (a : ℕ) → n < suc ADDRESSES → address_below n text ≡ Some a
    → IsTextOf text a
unfolding address_below
found zero text a most is = absurd (cc is)
found (suc n) text a most is =
    go (is_listable n) refl (bytes_eq text (text_of n)) refl
    (found n text a (omega (arith, most))) is
  where
    go : (listable : Bool) → is_listable n ≡ listable → (same : Bool)
        → bytes_eq text (text_of n) ≡ same
        → (address_below n text ≡ Some a → IsTextOf text a)
        → cond (listable && same) (Some n) (address_below n text) ≡ Some a → IsTextOf text a
    go true listable true same below is =
        let n_is : n ≡ a = cc in
        rw (← n_is) (record {
          in_range = omega (arith, most);
          listable = listable;
          written = (same_text text (text_of n) true same).0 refl;
        })
    go true listable false same below is = below is
    go false listable same equal below is = below is

-- and what has the text is found
finds : (n : ℕ) (text : List ℕ) (a : ℕ) → n < suc ADDRESSES → a < n → IsTextOf text a
    → address_below n text ≡ Some a
unfolding address_below
finds zero text a most below is = absurd (omega arith)
finds (suc n) text a most below is =
    go (is_listable n) refl (bytes_eq text (text_of n)) refl
    (λ less. finds n text a (omega (arith, most)) less is)
  where
    go : (listable : Bool) → is_listable n ≡ listable → (same : Bool)
        → bytes_eq text (text_of n) ≡ same
        → (a < n → address_below n text ≡ Some a)
        → cond (listable && same) (Some n) (address_below n text) ≡ Some a
    go true listable true same less =
        let n_is : IsTextOf text n = record {
          in_range = omega (arith, most);
          listable = listable;
          written = (same_text text (text_of n) true same).0 refl;
        } in
        ap Some (one_address text n a n_is is)
    go true listable false same less = less (elim (cases_lt a n) [
      | inl first ↦ first
      | inr last ↦
          let a_is : a ≡ n = omega (arith, below, last) in
          absurd (false≢true
          ((same_text text (text_of n) false same).1 (rw (← a_is) is.written)))
    ])
    go false listable same equal less = less (elim (cases_lt a n) [
      | inl first ↦ first
      | inr last ↦
          let a_is : a ≡ n = omega (arith, below, last) in
          absurd (false≢true (sym listable ∙ rw (← a_is) is.listable))
    ])

-- the address that a text is read as
pub reads : (text : List ℕ) (a : ℕ) → IsTextOf text a ↔ (address_in text ≡ Some a)
unfolding address_in
reads text a = (
  λ is. finds ADDRESSES text a (omega arith) is.in_range is,
  λ is. found ADDRESSES text a (omega arith) is,
)

-- ---- what std reads

-- nothing: it is no address
pub no_address : {E : Type 0} (text : List ℕ) (e : E) (r : Result SocketAddr E) → r ≡ Err e
    → Parses IsSocketText text r → address_in text ≡ None
no_address text e r err parsed = go (address_in text) refl
  where
    go : (read : Option ℕ) → address_in text ≡ read → read ≡ None
    go None is = refl
    go (Some a) is =
        let has = (reads text a).1 is in
        let none : (s : SocketAddr) → ¬ IsSocketText text s = rw err at parsed in
        absurd (none (socket_of a) (rw has.written (spells a)))

-- a socket whose text it is
pub has_address : (text : List ℕ) (s : SocketAddr) → of_socket s < ADDRESSES
    → is_listable (of_socket s) ≡ true → bytes_eq (text_of (of_socket s)) text ≡ true
    → address_in text ≡ Some (of_socket s)
has_address text s fits listable same =
    (reads text (of_socket s)).0 (record {
      in_range = fits;
      listable = listable;
      written = sym ((same_text (text_of (of_socket s)) text true same).0 refl);
    })

-- and a socket that has another text, or is none that may be listed
pub other_text : (text : List ℕ) (s : SocketAddr) → IsSocketText text s
    → (is_listable (of_socket s) ≡ true → bytes_eq (text_of (of_socket s)) text ≡ false)
    → address_in text ≡ None
other_text text s parsed other = go (address_in text) refl
  where
    go : (read : Option ℕ) → address_in text ≡ read → read ≡ None
    go None is = refl
    go (Some a) is =
        let has = (reads text a).1 is in
        let same : of_socket s ≡ a =
        ap of_socket (socket_is text a s has parsed) ∙ address_back a has.in_range in
        absurd (false≢true
        ((same_text (text_of (of_socket s)) text false
        (other (rw same has.listable))).1 (rw same (sym has.written))))
