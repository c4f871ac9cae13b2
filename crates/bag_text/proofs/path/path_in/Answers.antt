use Rattle.std.proofs.Common.{◌≡◌, true, false, sym, ap, ◌∙◌}
use Rattle.std.proofs.lemmas.Str.{IsUtf8-string_bytes}
use Rattle.std.specs.String.{string_bytes}
use Rattle.bag_text.specs.Paths.{path_of, unescaped, without_dot_slash}
use Rattle.bag_text.proofs.PathLaws.{path_in-text, path_in-other}
use Rattle.bag_text.proofs.path.path_in.Goals as goal

pub returns-in-Ok : goal.returns-in-Ok
returns-in-Ok c =
    let made : c.in_ok-path.path.items ≡ path_of c.args.written.now =
    c.in_ok-path.ensures ∙ ap unescaped
    (c.without_dot_slash.ensures ∙ ap without_dot_slash c.without_star.ensures) in
    let text : string_bytes c.in-Ok.path ≡ c.in_ok-path.path.items =
    ap (λ v. v.items) c.in-Ok.ensures.ok in
    sym (path_in-text c.args.written.now (string_bytes c.in-Ok.path) (text ∙ made)
    (IsUtf8-string_bytes c.in-Ok.path))

pub returns : goal.returns
returns c =
    let made : c.in_ok-path.path.items ≡ path_of c.args.written.now =
    c.in_ok-path.ensures ∙ ap unescaped
    (c.without_dot_slash.ensures ∙ ap without_dot_slash c.without_star.ensures) in
    sym (path_in-other c.args.written.now c.in_ok-path.path.items made
    (λ text. let refused : false ≡ true = c.in-Err.ensures.succeeds text in cc))
