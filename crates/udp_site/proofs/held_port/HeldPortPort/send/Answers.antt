use Rattle.std.proofs.Common.{rules, ◌≡◌, ◌∙◌, ◌++◌, ◌∷◌, [], ap, List}
use Rattle.udp_site.specs.declared.held_port.HeldPost.{HeldPost}
use Rattle.udp_site.proofs.HeldMore.{held_next}
use Rattle.udp_site.proofs.held_port.HeldPortPort.send.Goals as goal

pub returns-clause-handed : goal.returns-clause-handed
returns-clause-handed c =
    let bytes : c.in_ok-bytes.bytes.items ≡ c.args.bytes.now = search rules in
    let post : HeldPost = record { to = c.args.to; bytes = c.in_ok-bytes.bytes } in
    held_next c.args.self.now.posts.items c.push_reserved.new.self.items post c.args.bytes.now
    (c.push_reserved.ensures.items
    ∙ ap (λ (l : List HeldPost). l ++ post ∷ []) c.in_ok-reserve.ensures.items) bytes
