use Rattle.std.proofs.Common.{◌∙◌, ap}
use Rattle.std.specs.Prelude.{not}
use Rattle.std.specs.Option.{option_copied}
use Rattle.code_words.specs.declared.kind.Kind.TheVariants.{Weight}
use Rattle.code_words.specs.Kinds.{takes}
use Rattle.code_words.proofs.FirstOf.{first_of_map}
use Rattle.code_words.proofs.federation_line.no_weight.Goals as goal

pub returns : goal.returns
returns c =
    ap option_copied (c.copied.ensures ∙ c.wrong_weight.ensures)
    ∙ first_of_map (λ word. not (takes Weight word)) (λ word. word.now) c.args.words.now
