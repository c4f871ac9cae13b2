-- A port that holds one datagram more.
use Rattle.std.proofs.Common.{◌≡◌, ℕ, List, [], ◌∷◌, ◌++◌, Some, flat_map}
use Rattle.std.proofs.lemmas.Grind.{flat_map-append}
use Rattle.udp_site.specs.Traffic.{Post, Handed, all_handed}
use Rattle.udp_site.specs.declared.held_port.HeldPost.{HeldPost}
use Rattle.udp_site.specs.inner.HeldPosts.{post_of}
use Rattle.std.proofs.lemmas.List.{map-append}

abbrev pub one : HeldPost → List Post
one post = post_of post ∷ []

pub held_next : (xs ys : List HeldPost) (post : HeldPost) (bytes : List ℕ)
    → ys ≡ xs ++ post ∷ [] → post.bytes.items ≡ bytes
    → Some (all_handed (flat_map one ys))
    ≡ Some (all_handed (flat_map one xs) ++ Handed (post.to, bytes) ∷ [])
unfolding all_handed
held_next xs ys post bytes is same =
    rw (is, flat_map-append one xs (post ∷ []), map-append, ← same)
