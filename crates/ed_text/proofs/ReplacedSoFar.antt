-- A text with some of its changes made.
use Rattle.std.proofs.Common.{◌≡◌, ℕ, ◌+◌, ◌≤◌, ◌-◌, List, ◌∷◌, ◌++◌, length, take, drop, ap, sym, ◌∙◌, append_assoc, arith, length-append, length-drop, slice_range}
use Rattle.std.proofs.lemmas.List.{take_at, drop_at, take-append-drop, drop-drop, length-take-le}
use Rattle.std.proofs.Math.Seq.{take-append-add, drop-append-add}
use Rattle.ed_base.specs.declared.edit.Change.{Change}
use Rattle.ed_base.specs.ChangeList.{AreNormalFrom, ChangeList, applied, new_len}
use Rattle.ed_change.proofs.Splicing.{Copied, copied_next, copied_at, copied_end}
use Rattle.ed_change.proofs.Laws.{applied_spliced, length_applied}
use Rattle.std.proofs.Common.{get_or, ◌<◌}
use Rattle.ed_text.specs.Splices.{spliced}

-- up to the place `to` the text is that after the changes so far, and from there on the old one from `at` on
pub record ReplacedUpTo (old whole : List ℕ) (at to : ℕ) (text : List ℕ) (rest : List Change) : Type 0 where
  pub copied : Copied old whole at (take to text) rest
  pub left : drop to text ≡ drop at old
  pub there : to ≤ length text

pub replaced_next : (old whole : List ℕ) (at to : ℕ) (text : List ℕ) (x : Change) (xs : List Change) → ReplacedUpTo old whole at to text (x ∷ xs) → ReplacedUpTo old whole (x.start + x.old_len) (to + (x.start - at) + length x.text) (spliced text (to + (x.start - at)) (to + (x.start - at) + x.old_len) x.text) xs
replaced_next old whole at to text x xs b =
    let d = take to text in
    let sr = slice_range old at x.start in
    let start = to + (x.start - at) in
    let normal : AreNormalFrom at (length old) (x ∷ xs) = b.copied.normal in
    let past : at ≤ x.start = normal.0 in
    let within : x.start + x.old_len ≤ length old = normal.1 in
    let n : length d ≡ to = length-take-le to text b.there in
    let whole_text : text ≡ d ++ drop at old = sym (take-append-drop to text) ∙ ap (λ l. d ++ l) b.left in
    let front : take start text ≡ d ++ sr = ap (take start) whole_text ∙ (ap (λ k. take (k + (x.start - at)) (d ++ drop at old)) (sym n) ∙ take-append-add d (drop at old) (x.start - at)) in
    let off : at + (x.start - at + x.old_len) ≡ x.start + x.old_len = omega arith in
    let back : drop (start + x.old_len) text ≡ drop (x.start + x.old_len) old = ap (drop (start + x.old_len)) whole_text ∙ (ap (λ k. drop k (d ++ drop at old)) (omega (arith, n)) ∙ (drop-append-add d (drop at old) (x.start - at + x.old_len) ∙ (drop-drop (x.start - at + x.old_len) at old ∙ ap (λ k. drop k old) off))) in
    let new = spliced text start (start + x.old_len) x.text in
    let done = (d ++ sr) ++ x.text in
    let is : new ≡ done ++ drop (x.start + x.old_len) old = ap (λ l. l ++ (x.text ++ drop (start + x.old_len) text)) front ∙ (ap (λ l. (d ++ sr) ++ (x.text ++ l)) back ∙ sym (append_assoc (d ++ sr) x.text (drop (x.start + x.old_len) old))) in
    let srn : length sr ≡ x.start - at = length-take-le (x.start - at) (drop at old) (omega (arith, length-drop at old)) in
    let len : length done ≡ start + length x.text = omega (arith, length-append (d ++ sr) x.text, length-append d sr, n, srn) in
    let t : take (start + length x.text) new ≡ done = ap (take (start + length x.text)) is ∙ take_at done (drop (x.start + x.old_len) old) (start + length x.text) len in
    record {
      copied = rw t (copied_next old whole at d x xs b.copied);
      left = ap (drop (start + length x.text)) is ∙ drop_at done (drop (x.start + x.old_len) old) (start + length x.text) len;
      there = omega (arith, ap length is, length-append done (drop (x.start + x.old_len) old), len);
    }

pub replaced_at : (old whole : List ℕ) (at to : ℕ) (text : List ℕ) (all : List Change) (k : ℕ) (x : Change) → k < length all → x ≡ get_or all k x → ReplacedUpTo old whole at to text (drop k all) → ReplacedUpTo old whole at to text (x ∷ drop (k + 1) all)
replaced_at old whole at to text all k x h e b = record { copied = copied_at old whole at (take to text) all k x h e b.copied; left = b.left; there = b.there }

pub replaced_end : (old whole : List ℕ) (at to : ℕ) (text : List ℕ) (all : List Change) (k : ℕ) → length all ≤ k → ReplacedUpTo old whole at to text (drop k all) → text ≡ whole
replaced_end old whole at to text all k h b = sym (take-append-drop to text) ∙ (ap (λ l. take to text ++ l) b.left ∙ copied_end old whole at (take to text) all k h b.copied)

pub replaced_begin : (c : ChangeList) (old text : List ℕ) (items : List Change) → length old ≡ c.old_len → AreNormalFrom 0 c.old_len c.changes → items ≡ c.changes → text ≡ old → ReplacedUpTo old (applied c old) 0 0 text items
replaced_begin c old text items n normal e t = record {
  copied = rw e (record { within = omega arith; normal = rw n normal; text = sym (applied_spliced c old n normal) });
  left = t;
  there = omega arith;
}

-- the lengths before a change is made
pub record Sizes (c : ChangeList) (old : List ℕ) (at to : ℕ) (text : List ℕ) (x : Change) : Type 0 where
  pub past : at ≤ x.start
  pub within : x.start + x.old_len ≤ length old
  pub fits : to + (x.start - at) + length x.text ≤ new_len c
  pub all : length text ≡ to + (length old - at)

sizes : (c : ChangeList) (old : List ℕ) (at to : ℕ) (text : List ℕ) (x : Change) (xs : List Change) → length (applied c old) ≡ new_len c → ReplacedUpTo old (applied c old) at to text (x ∷ xs) → Sizes c old at to text x
sizes c old at to text x xs whole b =
    let n = replaced_next old (applied c old) at to text x xs b in
    let normal : AreNormalFrom at (length old) (x ∷ xs) = b.copied.normal in
    let start = to + (x.start - at) + length x.text in
    let new = spliced text (to + (x.start - at)) (to + (x.start - at) + x.old_len) x.text in
    let l1 : length (take start new) ≡ start = length-take-le start new n.there in
    record {
      past = normal.0;
      within = normal.1;
      fits = omega (arith, whole, l1, simp length-append at (ap length n.copied.text));
      all = omega (arith, b.there, length-drop to text, length-drop at old, ap length b.left);
    }

pub sizes_at : (c : ChangeList) (old : List ℕ) (at to : ℕ) (text : List ℕ) (all : List Change) (k : ℕ) (x : Change) → c.old_len ≡ length old → AreNormalFrom 0 c.old_len c.changes → k < length all → x ≡ get_or all k x → ReplacedUpTo old (applied c old) at to text (drop k all) → Sizes c old at to text x
sizes_at c old at to text all k x len normal more is b = sizes c old at to text x (drop (k + 1) all) (length_applied c old (sym len) normal) (replaced_at old (applied c old) at to text all k x more is b)
