-- A component that does something.
use Rattle.std.proofs.Common.{◌≡◌, ◌++◌, ◌∷◌, [], ◌&&◌, false, length, ap, ◌∙◌, arith, sym}
use Rattle.std.specs.Prelude.{nat_eq}
use Rattle.std.proofs.lemmas.Bool.Decides.{nat_tests}
use Rattle.ed_pieces.proofs.Cutting.{closed, not_same, not_none}
use Rattle.ed_pieces.proofs.pending.Pending.close.Goals.{else-self-via-then-self+else-is_empty, else-self-via-else-self}
use Rattle.ed_pieces.proofs.pending.Pending.close.Goals as goal

pub returns : goal.returns
returns c =
    let none : (nat_eq c.args.self.start c.args.self.end && nat_eq (length c.args.self.runs.items) 0) ≡ false = elim c.else-self.branch [
      | else-self-via-then-self+else-is_empty w ↦
          let e = w.is_empty.ensures in
          let f = w.if-is_empty.false in
          let same = w.as_slice.ensures.value in
          not_none c.args.self.start c.args.self.end c.args.self.runs.items (λ z. grind (arith, nat_tests, e, f, ap length same, z))
      | else-self-via-else-self w ↦ let a = w.if-self.false in not_same c.args.self.start c.args.self.end c.args.self.runs.items a
    ] in
    c.in_ok-push.ensures.items ∙ ap (λ z. c.args.list.now.items ++ z) (ap (λ x. x ∷ []) c.of.ensures ∙ sym (closed c.args.self.start c.args.self.end c.args.self.runs.items c.requires.runs none))
