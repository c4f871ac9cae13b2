-- What a port holds.
use Rattle.std.specs.Prelude.{◌∷◌, [], List}
use Rattle.std.specs.List.{flat_map}
use Rattle.udp_site.specs.declared.held_port.HeldPort.{HeldPort}
use Rattle.udp_site.specs.declared.held_port.HeldPost.{HeldPost}
use Rattle.udp_site.specs.Traffic.{Post}

abbrev pub post_of : HeldPost → Post
post_of post = (post.to, post.bytes.items)

-- the datagrams that it holds, in order
abbrev pub posts_held : HeldPort → List Post
posts_held port = flat_map (λ post. post_of post ∷ []) port.posts.items
