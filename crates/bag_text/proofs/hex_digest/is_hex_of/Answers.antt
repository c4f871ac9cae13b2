use Rattle.std.proofs.Common.{◌∙◌, sym, [], arith}
use Rattle.std.specs.Result.{result_unwrap_or}
use Rattle.hex.specs.Hex.{decode_of}
use Rattle.bag_text.proofs.HexLaws.{decodes, equal_bytes, other_length}
use Rattle.bag_text.proofs.hex_digest.is_hex_of.Goals as goal

pub returns-in-Ok : goal.returns-in-Ok
returns-in-Ok c =
    let digits = c.args.digits.now in
    equal_bytes c.eq_ignore_ascii_case.result digits (result_unwrap_or (decode_of digits) [])
    c.args.bytes.now c.encode_to_slice.new.output
    (λ i. let fits = c.type_inv.bytes i in omega arith) (decodes digits c.requires.digits)
    c.in-Ok.ensures.written c.eq_ignore_ascii_case.ensures.test

pub returns-in-Err : goal.returns-in-Err
returns-in-Err c =
    let digits = c.args.digits.now in
    sym
    (other_length digits (result_unwrap_or (decode_of digits) []) c.args.bytes.now
    (decodes digits c.requires.digits)
    (λ same. absurd (cc (c.in-Err.ensures.fits.1 (c.requires.room ∙ same)))))
