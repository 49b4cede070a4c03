use Rattle.std.proofs.Common.{◌≤◌, ◌*◌, length, arith, ap}
use Rattle.std.proofs.Math.Nat.{mul-le-mul_right, le_trans}
use Rattle.ed_text.proofs.HalfFull.{half_full_len}
use Rattle.ed_text.proofs.node.+push_nodes.Goals as goal

pub returns-clause-half_full : goal.returns-clause-half_full
returns-clause-half_full g t c = λ h n.
    let w = g.C.Level.least in
    let all = c.requires.balanced (omega arith) in
    let f = half_full_len g.C.Level.units w c.in_ok-front.front.items (c.in_ok-front.ensures.front_half_full all) in
    let b = half_full_len g.C.Level.units w c.in_ok-front.back.items (c.in_ok-front.ensures.back_half_full all) in
    let f8 : 8 * w ≤ length c.in_ok-front.front.items * w = mul-le-mul_right w (omega (arith, c.in_ok-front.ensures.front, c.in_ok-front.ensures.back)) in
    let b8 : 8 * w ≤ length c.in_ok-front.back.items * w = mul-le-mul_right w (omega (arith, c.in_ok-front.ensures.front, c.in_ok-front.ensures.back)) in
    c.in_ok-push_nodes-2.ensures.half_full (c.in_ok-push_nodes.ensures.half_full h (le_trans f8 f)) (le_trans b8 b)

pub returns-clause-balanced : goal.returns-clause-balanced
returns-clause-balanced g t c = λ e one.
    let w = g.C.Level.least in
    let all = c.requires.balanced (omega arith) in
    let f = half_full_len g.C.Level.units w c.in_ok-front.front.items (c.in_ok-front.ensures.front_half_full all) in
    let b = half_full_len g.C.Level.units w c.in_ok-front.back.items (c.in_ok-front.ensures.back_half_full all) in
    let f8 : 8 * w ≤ length c.in_ok-front.front.items * w = mul-le-mul_right w (omega (arith, c.in_ok-front.ensures.front, c.in_ok-front.ensures.back)) in
    let b8 : 8 * w ≤ length c.in_ok-front.back.items * w = mul-le-mul_right w (omega (arith, c.in_ok-front.ensures.front, c.in_ok-front.ensures.back)) in
    c.in_ok-push_nodes-2.ensures.half_full (c.in_ok-push_nodes.ensures.half_full (λ k d l. absurd (omega (arith, ap length e))) (le_trans f8 f)) (le_trans b8 b)
