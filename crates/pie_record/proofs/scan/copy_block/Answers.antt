use Rattle.std.proofs.Common.{arith, ap, ◌∙◌, ◌≡◌, ◌+◌, ◌-◌, ◌++◌, ℕ, length, take, drop}
use Rattle.std.proofs.lemmas.Simd.{take_more_put_chunk, length-chunk}
use Rattle.pie_record.proofs.scan.copy_block.Goals as goal

pub returns-clause-copied : goal.returns-clause-copied
returns-clause-copied c =
    let at = c.args.at in
    let block = take 32 (drop at c.args.bytes.now) in
    let long : length block ≡ 32 = length-chunk at 32 c.args.bytes.now c.requires.within in
    let same : 32 ≡ at + 32 - at = omega arith in
    take_more_put_chunk at c.args.line.now block (at + 32) (omega (arith, long)) c.requires.room
    ∙ ap (λ (n : ℕ). take at c.args.line.now ++ take n (drop at c.args.bytes.now)) same
