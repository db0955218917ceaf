use Rattle.std.proofs.Common.{ℕ, ◌≡◌, ◌+◌, ◌-◌, ◌≤◌, max, ◌++◌, length, decimal, replicate, sym, ap, ◌∙◌, arith, rules}
use Rattle.std.proofs.lemmas.List.{length-replicate}
use Rattle.text.specs.Writer.{written, if_room, padded}
use Rattle.text.proofs.WriterLemmas.{length-written, text_fits, written_on, padded_parts, padded_length}
use Rattle.text.proofs.writer.write_padded.Goals as goal

pub returns-clause-writes : goal.returns-clause-writes
returns-clause-writes c =
    let at = c.args.at in
    let bytes = c.args.buffer.now in
    let digits = c.as_bytes-digits.result.now in
    let is : digits ≡ decimal c.args.number = search rules in
    let end : c.in_ok-end.end ≡ at + max c.args.width (length digits) = search rules in
    let fits : c.in_ok-end.end ≤ length bytes = search rules in
    let start = c.in_ok-end.end - length digits in
    let n = start - at in
    let wide : n ≡ c.args.width - length digits = omega (arith, end) in
    let behind : start ≡ at + length (replicate {A = ℕ} n 32) = omega (arith, end, length-replicate {A = ℕ} n 32) in
    let whole : replicate n 32 ++ digits ≡ padded c.args.width c.args.number =
    ap (λ k. replicate k 32 ++ digits) wide ∙ sym (padded_parts c.args.width c.args.number digits is) in
    c.write_bytes.ensures.writes
    ∙ ap (if_room start digits) c.fill_spaces.ensures
    ∙ text_fits start digits (written at (replicate n 32) bytes)
    (omega (arith, end, fits, length-written at (replicate n 32) bytes (omega (arith, behind, end, fits))))
    ∙ written_on at start (replicate n 32) digits bytes behind (omega (arith, end, fits))
    ∙ ap (λ t. written at t bytes) whole
    ∙ sym (text_fits at (padded c.args.width c.args.number) bytes
    (omega (arith, end, fits, padded_length c.args.width c.args.number, ap length is)))
