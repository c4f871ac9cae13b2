-- The kinds of words that commands take.
use Rattle.std.specs.Prelude.{ℕ, nat_le, nat_lt, Bool, ◌&&◌, List, [], ◌∷◌, ◌++◌, length, codes}
use Rattle.std.specs.Prelude.{is_some}
use Rattle.std.specs.Option.{option_map_or}
use Rattle.tokens.specs.Words.{bytes_of, number_in, text_of}
use Rattle.code_words.specs.declared.kind.Kind.{Kind}
use Rattle.code_words.specs.declared.kind.Kind.TheVariants.{Federation, Count, Weight, Site, Tree}
use Rattle.code_words.specs.declared.kind.Kind.TheVariants.{Object, Version, Number, Path, Bytes}
use Rattle.code_words.specs.declared.kind.Kind.TheVariants.{Port}
use Rattle.code_words.specs.Words.{found_text}

-- what a word of this kind is, with its article
abbrev pub name_of : Kind → List ℕ
name_of Federation = codes "a federation's number"
name_of Count = codes "a number of sites"
name_of Weight = codes "a weight"
name_of Site = codes "a site"
name_of Tree = codes "a tree"
name_of Object = codes "an object"
name_of Version = codes "a version"
name_of Number = codes "a number"
name_of Path = codes "a path"
name_of Bytes = codes "hex"
name_of Port = codes "a port"

-- which words there are for it
abbrev pub range_of : Kind → List ℕ
range_of Federation = codes "0 to 18446744073709551615"
range_of Count = codes "1 to 63"
range_of Weight = codes "1 to 255"
range_of Site = codes "0 to 255"
range_of Tree = codes "1 to 4294967295"
range_of Version = codes "1 to 4294967295"
range_of Object = codes "1 to 200 bytes of UTF-8"
range_of Number = codes "0 to 4294967295"
range_of Path = codes "UTF-8"
range_of Bytes = codes "two digits for each byte, or - for none"
range_of Port = codes "1 to 65535"

-- how many bytes of text a word stands for, where one that is no text stands for none
abbrev pub text_length : List ℕ → ℕ
text_length word = option_map_or length (text_of word) 0

-- a word is one of this kind
abbrev pub takes : Kind → (word : List ℕ) → Bool
takes Federation word = is_some (number_in 0 18446744073709551615 word)
takes Count word = is_some (number_in 1 63 word)
takes Weight word = is_some (number_in 1 255 word)
takes Site word = is_some (number_in 0 255 word)
takes Tree word = is_some (number_in 1 4294967295 word)
takes Version word = is_some (number_in 1 4294967295 word)
takes Object word = nat_lt 0 (text_length word) && nat_le (text_length word) 200
takes Number word = is_some (number_in 0 4294967295 word)
takes Path word = nat_lt 0 (text_length word)
takes Bytes word = is_some (bytes_of word)
takes Port word = is_some (number_in 1 65535 word)

-- the word as it is shown, and that it isn't of this kind
abbrev pub wrong_text : Kind → (word : List ℕ) → List ℕ
wrong_text kind word =
    found_text (word ∷ [])
    ++ (codes " isn't " ++ (name_of kind ++ (codes ", " ++ range_of kind)))
