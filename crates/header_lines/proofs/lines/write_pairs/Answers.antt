use Rattle.std.proofs.Common.{rules, arith, ◌<◌, ◌∙◌, sym, ap, true, [], flat_map, take, get_or}
use Rattle.std.proofs.Output.{has_written_append, has_written_of_eq}
use Rattle.std.proofs.lemmas.Fmt.{hex_byte}
use Rattle.std.proofs.lemmas.List.{take_more, flat_map_more}
use Rattle.octet_texts.specs.Pairs.{pair_of}
use Rattle.header_lines.proofs.lines.write_pairs.Goals as goal

pub loop-octet-preserved : goal.loop-octet-preserved
loop-octet-preserved g c = λ p.
    let octets = c.args.octets.now in
    let i = c.loop-octet.octet-index in
    let o = get_or octets i 0 in
    let sofar = c.loop-octet.invariant p in
    let fits : o < 256 = omega (arith, c.type_inv.octets i) in
    let laid = rw c.laid_out.ensures at c.write.ensures.writes in
    let radix = rw c.in_radix.ensures at laid in
    let one = rw (hex_byte true o fits) at radix in
    let more = flat_map_more pair_of [] (take i octets) o ∙ ap (flat_map pair_of) (sym (take_more octets i 0 (search rules))) in
    has_written_of_eq _ _ _ _ _ more (has_written_append _ _ _ _ _ _ sofar (one sofar.plain (search rules)))
