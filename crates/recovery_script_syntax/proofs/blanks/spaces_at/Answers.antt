use Rattle.std.proofs.Common.{◌≡◌, ℕ, ◌+◌, ◌==◌, ◌∙◌, ap, get_or, bit_xor, arith}
use lib.Bits.{xor_lt}
use Rattle.core.specs.Slice.Scan.{digits_from}
use Rattle.core.proofs.slice.Flagged.{differences, zero_flags, same_flags, no_difference, flags}
use Rattle.recovery_script_syntax.proofs.blanks.spaces_at.Goals as goal

pub returns : goal.returns
returns c =
    let bs = c.args.bytes.now in
    let at = c.args.at in
    let apart = λ (k : ℕ). bit_xor (get_or bs (at + k) 0) 32 in
    let small = λ (k : ℕ).
    xor_lt 8 (get_or bs (at + k) 0) 32 (c.type_inv.bytes (at + k)).fits (omega arith) in
    let word : bit_xor c.word_at-others.result 0x2020_2020_2020_2020 ≡ digits_from apart 0 8 =
    ap (λ w. bit_xor w 0x2020_2020_2020_2020) c.word_at-others.ensures.word
    ∙ differences bs c.type_inv.bytes at 32 (omega arith) in
    flags (λ k. get_or bs k 0 == 32) at _
    (zero_flags _ apart small word ∙ same_flags _ _ (λ k. no_difference (get_or bs (at + k) 0) 32))
