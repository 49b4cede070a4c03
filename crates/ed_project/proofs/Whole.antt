-- The kept pairs of all members, when sources step and when members are replaced.
use Rattle.std.proofs.Common.{◌≡◌, ℕ, suc, ◌+◌, ◌-◌, ◌<◌, ◌≤◌, true, false, List, [], ◌∷◌, ◌++◌, length, map, take, drop, Option, Some, None, refl, sym, ap, subst, ◌∙◌, arith, length-append, append_assoc}
use Rattle.std.specs.Prelude.{MatchOption, nat_le, nat_lt, option_and_then, slice_get}
use Rattle.std.specs.Option.{option_map_or}
use Rattle.std.proofs.lemmas.List.{append-nil, drop-drop, length-drop, length-map, length-take, map-append, take-append-drop}
use Rattle.std.proofs.lemmas.List.Sums.{sum_by-append, sum_by-cons}
use Rattle.std.proofs.Math.Seq.{take-append_seam}
use Rattle.std.proofs.lemmas.Bool.Decides.{nat_tests}
use Rattle.ed_base.specs.declared.edit.Span.{Span}
use Rattle.ed_base.specs.declared.piece.Member.{Member}
use Rattle.ed_base.specs.Spans.{end_of}
use Rattle.ed_base.specs.Step.{Step, pairs_from}
use Rattle.ed_base.proofs.NormalSteps as steps_of
use Rattle.ed_layers.specs.Records.{member_len, members_len, projection}
use Rattle.ed_layers.specs.SourceStep.{SourceStep}
use Rattle.ed_layers.specs.CarrierStep.{Slot, all_stay, carrier_step, member_slots, stay_around}
use Rattle.ed_members.specs.Faults.{replaced}
use Rattle.ed_kept.specs.Kept.{ArePairsRising, run_pairs}
use Rattle.ed_project.specs.Kept.{AllBecome, Becomes, Rises, all_pairs, bounds_of, member_pairs, move, pairs_around, shown_pairs}
use Rattle.ed_project.specs.Texts.{no_steps}
use Rattle.ed_kept.proofs.Rising.{rising_join, rising_run, rising_weak, run_join}
use Rattle.ed_project.proofs.Showing.{rising_shown}
use Rattle.ed_project.proofs.Placing.{length_slots, length_slots_from, slots_from, source_of}
use Rattle.ed_project.proofs.Origins.{origin, pairs_in, pairs_moved, pairs_new, pairs_stay}

pairs_join : (q : ℕ) (f : Slot → Option ℕ) (xs ys : List Slot) → pairs_from q (map f (xs ++ ys)) ≡ pairs_from q (map f xs) ++ pairs_from (q + length xs) (map f ys)
pairs_join q f xs ys =
    ap (pairs_from q) (map-append f xs ys) ∙ steps_of.pairs_append q (map f xs) (map f ys) ∙ ap (λ n. pairs_from q (map f xs) ++ pairs_from (q + n) (map f ys)) (length-map xs f)

-- the first member's pairs, and those of the rest
pairs_first : (q y : ℕ) (f : Slot → Option ℕ) (m : Member) (ms : List Member) → pairs_from q (map f (slots_from y (m ∷ ms))) ≡ pairs_from q (map f (member_slots (y, m))) ++ pairs_from (q + member_len m) (map f (slots_from (y + 1) ms))
pairs_first q y f m ms =
    pairs_join q f (member_slots (y, m)) (slots_from (y + 1) ms) ∙ ap (λ n. pairs_from q (map f (member_slots (y, m))) ++ pairs_from (q + n) (map f (slots_from (y + 1) ms))) (length_slots y m)

slots_append : (y : ℕ) (xs ys : List Member) → slots_from y (xs ++ ys) ≡ slots_from y xs ++ slots_from (y + length xs) ys
slots_append y [] ys = ap (λ x. slots_from x ys) (let e : y ≡ y + length {A = Member} [] = omega arith in e)
slots_append y (x ∷ xs) ys =
    ap (λ zs. member_slots (y, x) ++ zs) (slots_append (y + 1) xs ys ∙ ap (λ z. slots_from (y + 1) xs ++ slots_from z ys) (let e : y + 1 + length xs ≡ y + length (x ∷ xs) = omega arith in e))
    ∙ sym (append_assoc (member_slots (y, x)) (slots_from (y + 1) xs) (slots_from (y + length (x ∷ xs)) ys))

pub len_push : (done : List Member) (m : Member) → members_len (done ++ m ∷ []) ≡ members_len done + member_len m
len_push done m = sum_by-append member_len done (m ∷ []) ∙ ap (λ n. members_len done + n) (let e : members_len (m ∷ []) ≡ member_len m = omega (arith, sum_by-cons member_len m []) in e)

length_push : (done : List Member) (m : Member) → length (done ++ m ∷ []) ≡ length done + 1
length_push done m = omega (arith, length-append done (m ∷ []))

-- ---- the sources step

member_first : (steps : ℕ → Option SourceStep) (before : List Member) (o : Member) (after : List Member) (n : Member) (q y : ℕ) → y ≡ length before → Becomes steps o n → Rises steps n → pairs_in all_stay steps (before ++ o ∷ after) q y n ≡ member_pairs steps (members_len before) q o n
member_first steps before (Member.Literal us) after (Member.Literal vs) q y at becomes rises =
    pairs_stay all_stay steps before (Member.Literal us) after (Member.Literal vs) q y (ap Some at) refl (ap (λ ws. bounds_of (Member.Literal ws)) (sym becomes))
member_first steps before (Member.Literal us) after (Member.Tracked source bounds mode) q y at becomes rises = absurd becomes
member_first steps before (Member.Tracked source bounds mode) after (Member.Literal vs) q y at becomes rises = absurd becomes
member_first steps before (Member.Tracked from old old_mode) after (Member.Tracked source bounds mode) q y at becomes rises = go (steps source) refl becomes.1 rises
  where
    go : (x : Option SourceStep) → steps source ≡ x → MatchOption x (old ≡ bounds) (λ s. (end_of old ≤ s.step.old_len) × (end_of bounds ≤ s.step.new_len)) → MatchOption x (Unit {0}) (λ s. ArePairsRising 0 0 s.step.old_len s.step.new_len s.step.kept) → pairs_in all_stay steps (before ++ Member.Tracked from old old_mode ∷ after) q y (Member.Tracked source bounds mode) ≡ option_map_or (λ s. shown_pairs (move old bounds (members_len before) q) s.step.kept) (steps source) (run_pairs (members_len before) q bounds.len)
    go None is same rise =
        rw is (pairs_stay all_stay steps before (Member.Tracked from old old_mode) after (Member.Tracked source bounds mode) q y (ap Some at) is (sym same))
    go (Some s) is within rise =
        rw is (pairs_moved all_stay steps before (Member.Tracked from old old_mode) after source bounds mode q y s (ap Some at) is rise)

all_from : (steps : ℕ → Option SourceStep) (old done os ns : List Member) (y k q : ℕ) → old ≡ done ++ os → y ≡ length done → k ≡ members_len done → AllBecome steps os ns → ((i : ℕ) (m : Member) → slice_get ns i ≡ Some m → Rises steps m) → pairs_from q (map (origin all_stay steps (slots_from 0 old)) (slots_from y ns)) ≡ all_pairs steps k q os ns
all_from steps old done [] [] y k q whole at from become rise = refl
all_from steps old done [] (n ∷ ns) y k q whole at from become rise = absurd become
all_from steps old done (o ∷ os) [] y k q whole at from become rise = absurd become
all_from steps old done (o ∷ os) (n ∷ ns) y k q whole at from become rise =
    let first : pairs_in all_stay steps old q y n ≡ member_pairs steps k q o n =
    ap (λ z. pairs_in all_stay steps z q y n) whole ∙ member_first steps done o os n q y at become.0 (rise 0 n refl) ∙ ap (λ x. member_pairs steps x q o n) (sym from) in
    let later : old ≡ (done ++ o ∷ []) ++ os = whole ∙ sym (append_assoc done (o ∷ []) os) in
    let rest : pairs_from (q + member_len n) (map (origin all_stay steps (slots_from 0 old)) (slots_from (y + 1) ns)) ≡ all_pairs steps (k + member_len o) (q + member_len n) os ns =
    all_from steps old (done ++ o ∷ []) os ns (y + 1) (k + member_len o) (q + member_len n) later (omega (arith, length_push done o)) (omega (arith, len_push done o)) become.1 (λ i m is. rise (suc i) m is) in
    pairs_first q y (origin all_stay steps (slots_from 0 old)) n ns
    ∙ ap (λ zs. zs ++ pairs_from (q + member_len n) (map (origin all_stay steps (slots_from 0 old)) (slots_from (y + 1) ns))) first
    ∙ ap (λ zs. member_pairs steps k q o n ++ zs) rest

pub all_kept : (steps : ℕ → Option SourceStep) (old new : List Member) → AllBecome steps old new → ((i : ℕ) (m : Member) → slice_get new i ≡ Some m → Rises steps m) → pairs_from 0 (map (origin all_stay steps (slots_from 0 old)) (slots_from 0 new)) ≡ all_pairs steps 0 0 old new
all_kept steps old new become rise = all_from steps old [] old new 0 0 0 refl refl refl become rise

member_rising : (steps : ℕ → Option SourceStep) (k q : ℕ) (o n : Member) → Becomes steps o n → Rises steps n → ArePairsRising k q (k + member_len o) (q + member_len n) (member_pairs steps k q o n)
member_rising steps k q (Member.Literal us) (Member.Literal vs) becomes rises =
    let same : k + length us ≡ k + length vs = ap (λ ws. k + length ws) becomes in
    rw same (rising_run k q (length vs))
member_rising steps k q (Member.Literal us) (Member.Tracked source bounds mode) becomes rises = absurd becomes
member_rising steps k q (Member.Tracked source bounds mode) (Member.Literal vs) becomes rises = absurd becomes
member_rising steps k q (Member.Tracked from old old_mode) (Member.Tracked source bounds mode) becomes rises = go (steps source) becomes.1 rises
  where
    go : (x : Option SourceStep) → MatchOption x (old ≡ bounds) (λ s. (end_of old ≤ s.step.old_len) × (end_of bounds ≤ s.step.new_len)) → MatchOption x (Unit {0}) (λ s. ArePairsRising 0 0 s.step.old_len s.step.new_len s.step.kept) → ArePairsRising k q (k + old.len) (q + bounds.len) (option_map_or (λ s. shown_pairs (move old bounds k q) s.step.kept) x (run_pairs k q bounds.len))
    go None same rise =
        let len : k + old.len ≡ k + bounds.len = ap (λ (b : Span). k + b.len) same in
        rw len (rising_run k q bounds.len)
    go (Some s) within rise =
        rising_shown (move old bounds k q) k q 0 0 s.step.old_len s.step.new_len s.step.kept rise (omega arith) (omega arith) (omega arith) (omega arith)

pub all_rising : (steps : ℕ → Option SourceStep) (k q : ℕ) (os ns : List Member) → AllBecome steps os ns → ((i : ℕ) (m : Member) → slice_get ns i ≡ Some m → Rises steps m) → ArePairsRising k q (k + members_len os) (q + members_len ns) (all_pairs steps k q os ns)
all_rising steps k q [] [] become rise = (omega arith, omega arith)
all_rising steps k q [] (n ∷ ns) become rise = absurd become
all_rising steps k q (o ∷ os) [] become rise = absurd become
all_rising steps k q (o ∷ os) (n ∷ ns) become rise =
    let rest : ArePairsRising (k + member_len o) (q + member_len n) (k + member_len o + members_len os) (q + member_len n + members_len ns) (all_pairs steps (k + member_len o) (q + member_len n) os ns) =
    all_rising steps (k + member_len o) (q + member_len n) os ns become.1 (λ i m is. rise (suc i) m is) in
    let old_end : k + members_len (o ∷ os) ≡ k + member_len o + members_len os = omega (arith, sum_by-cons member_len o os) in
    let new_end : q + members_len (n ∷ ns) ≡ q + member_len n + members_len ns = omega (arith, sum_by-cons member_len n ns) in
    subst (λ x. ArePairsRising k q x (q + members_len (n ∷ ns)) (all_pairs steps k q (o ∷ os) (n ∷ ns))) (sym old_end)
    (subst (λ x. ArePairsRising k q (k + member_len o + members_len os) x (all_pairs steps k q (o ∷ os) (n ∷ ns))) (sym new_end)
    (rising_join k q (k + member_len o) (q + member_len n) (k + member_len o + members_len os) (q + member_len n + members_len ns) (member_pairs steps k q o n) (all_pairs steps (k + member_len o) (q + member_len n) os ns)
    (member_rising steps k q o n become.0 (rise 0 n refl)) rest))

-- ---- members are replaced

no_source : (m : Member) → option_and_then no_steps (source_of m) ≡ None
no_source (Member.Literal units) = refl
no_source (Member.Tracked source bounds mode) = refl

same_from : (stays : ℕ → Option ℕ) (old done ms after : List Member) (y q : ℕ) → old ≡ done ++ (ms ++ after) → ((d : ℕ) → d < length ms → stays (y + d) ≡ Some (length done + d)) → pairs_from q (map (origin stays no_steps (slots_from 0 old)) (slots_from y ms)) ≡ run_pairs (members_len done) q (members_len ms)
same_from stays old done [] after y q whole stay = refl
same_from stays old done (m ∷ ms) after y q whole stay =
    let here : stays y ≡ Some (length done) = ap stays (let e : y ≡ y + 0 = omega arith in e) ∙ stay 0 (omega arith) ∙ ap Some (let e : length done + 0 ≡ length done = omega arith in e) in
    let first : pairs_in stays no_steps old q y m ≡ run_pairs (members_len done) q (member_len m) =
    ap (λ z. pairs_in stays no_steps z q y m) whole ∙ pairs_stay stays no_steps done m (ms ++ after) m q y here (no_source m) refl in
    let later : old ≡ (done ++ m ∷ []) ++ (ms ++ after) = whole ∙ sym (append_assoc done (m ∷ []) (ms ++ after)) in
    let rest : pairs_from (q + member_len m) (map (origin stays no_steps (slots_from 0 old)) (slots_from (y + 1) ms)) ≡ run_pairs (members_len (done ++ m ∷ [])) (q + member_len m) (members_len ms) =
    same_from stays old (done ++ m ∷ []) ms after (y + 1) (q + member_len m) later
    (λ d below. ap stays (let e : y + 1 + d ≡ y + suc d = omega arith in e) ∙ stay (suc d) (omega arith) ∙ ap Some (let e : length done + suc d ≡ length (done ++ m ∷ []) + d = omega (arith, length_push done m) in e)) in
    pairs_first q y (origin stays no_steps (slots_from 0 old)) m ms
    ∙ ap (λ zs. zs ++ pairs_from (q + member_len m) (map (origin stays no_steps (slots_from 0 old)) (slots_from (y + 1) ms))) first
    ∙ ap (λ zs. run_pairs (members_len done) q (member_len m) ++ zs) (rest ∙ ap (λ x. run_pairs x (q + member_len m) (members_len ms)) (len_push done m))
    ∙ sym (run_join (members_len done) q (member_len m) (members_len ms))
    ∙ ap (run_pairs (members_len done) q) (sym (sum_by-cons member_len m ms))

gone_from : (stays : ℕ → Option ℕ) (old ms : List Member) (y q : ℕ) → ((d : ℕ) → d < length ms → stays (y + d) ≡ None) → pairs_from q (map (origin stays no_steps (slots_from 0 old)) (slots_from y ms)) ≡ []
gone_from stays old [] y q gone = refl
gone_from stays old (m ∷ ms) y q gone =
    pairs_first q y (origin stays no_steps (slots_from 0 old)) m ms
    ∙ ap (λ zs. zs ++ pairs_from (q + member_len m) (map (origin stays no_steps (slots_from 0 old)) (slots_from (y + 1) ms))) (pairs_new stays no_steps old m q y (ap stays (let e : y ≡ y + 0 = omega arith in e) ∙ gone 0 (omega arith)))
    ∙ gone_from stays old ms (y + 1) (q + member_len m) (λ d below. ap stays (let e : y + 1 + d ≡ y + suc d = omega arith in e) ∙ gone (suc d) (omega arith))

-- three parts of the new members: the first, those that are put in, and the last
parts_kept : (head middle tail added : List Member) → let old = head ++ (middle ++ tail) in let stays = stay_around (length head) (length middle) (length added) in
    pairs_from 0 (map (origin stays no_steps (slots_from 0 old)) (slots_from 0 (head ++ (added ++ tail)))) ≡ run_pairs 0 0 (members_len head) ++ run_pairs (members_len (head ++ middle)) (members_len (head ++ added)) (members_len tail)
parts_kept head middle tail added =
    let old : List Member = head ++ (middle ++ tail) in
    let stays : ℕ → Option ℕ = stay_around (length head) (length middle) (length added) in
    let f : Slot → Option ℕ = origin stays no_steps (slots_from 0 old) in
    let a : ℕ = members_len head in
    let b : ℕ = members_len added in
    let first : pairs_from 0 (map f (slots_from 0 head)) ≡ run_pairs 0 0 a =
    same_from stays old [] head (middle ++ tail) 0 0 refl (λ d below. let low : nat_lt (0 + d) (length head) ≡ true = grind (arith, nat_tests) in rw low refl) in
    let second : pairs_from a (map f (slots_from (length head) added)) ≡ [] =
    gone_from stays old added (length head) a (λ d below.
    let high : nat_lt (length head + d) (length head) ≡ false = grind (arith, nat_tests) in
    let inner : nat_le (length head + length added) (length head + d) ≡ false = grind (arith, nat_tests) in
    rw (high, inner) refl) in
    let third : pairs_from (a + b) (map f (slots_from (length head + length added) tail)) ≡ run_pairs (members_len (head ++ middle)) (a + b) (members_len tail) =
    same_from stays old (head ++ middle) tail [] (length head + length added) (a + b) (ap (λ zs. head ++ (middle ++ zs)) (sym (append-nil tail)) ∙ sym (append_assoc head middle (tail ++ []))) (λ d below.
    let high : nat_lt (length head + length added + d) (length head) ≡ false = grind (arith, nat_tests) in
    let outer : nat_le (length head + length added) (length head + length added + d) ≡ true = grind (arith, nat_tests) in
    rw (high, outer) (ap Some (let e : length head + length added + d - length added + length middle ≡ length (head ++ middle) + d = omega (arith, length-append head middle) in e))) in
    let slots : slots_from 0 (head ++ (added ++ tail)) ≡ slots_from 0 head ++ (slots_from (length head) added ++ slots_from (length head + length added) tail) =
    slots_append 0 head (added ++ tail)
    ∙ ap (λ z. slots_from 0 head ++ slots_from z (added ++ tail)) (let e : 0 + length head ≡ length head = omega arith in e)
    ∙ ap (λ zs. slots_from 0 head ++ zs) (slots_append (length head) added tail) in
    ap (λ zs. pairs_from 0 (map f zs)) slots
    ∙ pairs_join 0 f (slots_from 0 head) (slots_from (length head) added ++ slots_from (length head + length added) tail)
    ∙ ap (λ zs. zs ++ pairs_from (0 + length (slots_from 0 head)) (map f (slots_from (length head) added ++ slots_from (length head + length added) tail))) first
    ∙ ap (λ n. run_pairs 0 0 a ++ pairs_from n (map f (slots_from (length head) added ++ slots_from (length head + length added) tail))) (let e : 0 + length (slots_from 0 head) ≡ a = omega (arith, length_slots_from 0 head) in e)
    ∙ ap (λ zs. run_pairs 0 0 a ++ zs) (pairs_join a f (slots_from (length head) added) (slots_from (length head + length added) tail)
    ∙ ap (λ zs. zs ++ pairs_from (a + length (slots_from (length head) added)) (map f (slots_from (length head + length added) tail))) second
    ∙ ap (λ n. pairs_from (a + n) (map f (slots_from (length head + length added) tail))) (length_slots_from (length head) added)
    ∙ third ∙ ap (λ n. run_pairs (members_len (head ++ middle)) n (members_len tail)) (sym (sum_by-append member_len head added)))

parts_rising : (a b m t : ℕ) → ArePairsRising 0 0 (a + m + t) (a + b + t) (run_pairs 0 0 a ++ run_pairs (a + m) (a + b) t)
parts_rising a b m t =
    rising_join 0 0 (0 + a) (0 + a) (a + m + t) (a + b + t) (run_pairs 0 0 a) (run_pairs (a + m) (a + b) t) (rising_run 0 0 a)
    (rising_weak (0 + a) (0 + a) (a + m) (a + b) (a + m + t) (a + b + t) (run_pairs (a + m) (a + b) t) (omega arith) (omega arith) (rising_run (a + m) (a + b) t))

-- the members that are replaced, in parts
pub record InParts (old new : List Member) (first removed : ℕ) (added : List Member) : Type 0 where
  pub head : List Member
  pub middle : List Member
  pub tail : List Member
  pub old_is : old ≡ head ++ (middle ++ tail)
  pub new_is : new ≡ head ++ (added ++ tail)
  pub first_is : length head ≡ first
  pub removed_is : length middle ≡ removed
  pub around : (behind : ℕ) → behind ≡ length old - (first + removed) → pairs_around old new first behind ≡ run_pairs 0 0 (members_len head) ++ run_pairs (members_len (head ++ middle)) (members_len (head ++ added)) (members_len tail)

in_parts : (old new : List Member) (first removed : ℕ) (added : List Member) → first + removed ≤ length old → new ≡ replaced old first removed added → InParts old new first removed added
in_parts old new first removed added within is =
    let head : List Member = take first old in
    let rest : List Member = drop first old in
    let middle : List Member = take removed rest in
    let tail : List Member = drop (first + removed) old in
    let tail_is : drop removed rest ≡ tail = drop-drop removed first old in
    let old_is : old ≡ head ++ (middle ++ tail) = sym (ap (λ zs. head ++ (middle ++ zs)) (sym tail_is) ∙ ap (λ zs. head ++ zs) (take-append-drop removed rest) ∙ take-append-drop first old) in
    let new_is : new ≡ head ++ (added ++ tail) = is ∙ append_assoc head added tail in
    let first_is : length head ≡ first = omega (arith, length-take first old) in
    let removed_is : length middle ≡ removed = omega (arith, length-take removed rest, length-drop first old) in
    record {
      head = head;
      middle = middle;
      tail = tail;
      old_is = old_is;
      new_is = new_is;
      first_is = first_is;
      removed_is = removed_is;
      around = λ behind far.
          let old_front : ℕ = length old - behind in
          let new_front : ℕ = length new - behind in
          let old_at : old_front ≡ length (head ++ middle) = omega (arith, far, length-append head middle) in
          let new_at : new_front ≡ length (head ++ added) = omega (arith, far, ap length new_is, length-append head (added ++ tail), length-append added tail, length-append head added, length-drop (first + removed) old) in
          let old_take : take old_front old ≡ head ++ middle = ap (λ n. take n old) old_at ∙ ap (take (length (head ++ middle))) (old_is ∙ sym (append_assoc head middle tail)) ∙ take-append_seam (head ++ middle) tail in
          let new_take : take new_front new ≡ head ++ added = ap (λ n. take n new) new_at ∙ ap (take (length (head ++ added))) (new_is ∙ sym (append_assoc head added tail)) ∙ take-append_seam (head ++ added) tail in
          let len : members_len old - members_len (take old_front old) ≡ members_len tail =
          omega (arith, ap members_len old_take, ap members_len (old_is ∙ sym (append_assoc head middle tail)), sum_by-append member_len (head ++ middle) tail) in
          ap (λ zs. run_pairs 0 0 (members_len head) ++ run_pairs (members_len zs) (members_len (take new_front new)) (members_len old - members_len (take old_front old))) old_take
          ∙ ap (λ zs. run_pairs 0 0 (members_len head) ++ run_pairs (members_len (head ++ middle)) (members_len zs) (members_len old - members_len (take old_front old))) new_take
          ∙ ap (λ n. run_pairs 0 0 (members_len head) ++ run_pairs (members_len (head ++ middle)) (members_len (head ++ added)) n) len;
    }

pub around_kept : (old new : List Member) (first removed : ℕ) (added : List Member) (behind : ℕ) → first + removed ≤ length old → new ≡ replaced old first removed added → behind ≡ length old - (first + removed) → pairs_from 0 (map (origin (stay_around first removed (length added)) no_steps (slots_from 0 old)) (slots_from 0 new)) ≡ pairs_around old new first behind
around_kept old new first removed added behind within is far =
    let p : InParts old new first removed added = in_parts old new first removed added within is in
    ap (λ n. pairs_from 0 (map (origin (stay_around n removed (length added)) no_steps (slots_from 0 old)) (slots_from 0 new))) (sym p.first_is)
    ∙ ap (λ n. pairs_from 0 (map (origin (stay_around (length p.head) n (length added)) no_steps (slots_from 0 old)) (slots_from 0 new))) (sym p.removed_is)
    ∙ ap (λ ms. pairs_from 0 (map (origin (stay_around (length p.head) (length p.middle) (length added)) no_steps (slots_from 0 ms)) (slots_from 0 new))) p.old_is
    ∙ ap (λ ms. pairs_from 0 (map (origin (stay_around (length p.head) (length p.middle) (length added)) no_steps (slots_from 0 (p.head ++ (p.middle ++ p.tail)))) (slots_from 0 ms))) p.new_is
    ∙ parts_kept p.head p.middle p.tail added
    ∙ sym (p.around behind far)

pub around_rising : (old new : List Member) (first removed : ℕ) (added : List Member) (behind : ℕ) → first + removed ≤ length old → new ≡ replaced old first removed added → behind ≡ length old - (first + removed) → ArePairsRising 0 0 (members_len old) (members_len new) (pairs_around old new first behind)
around_rising old new first removed added behind within is far =
    let p : InParts old new first removed added = in_parts old new first removed added within is in
    let a : ℕ = members_len p.head in
    let b : ℕ = members_len added in
    let m : ℕ = members_len p.middle in
    let t : ℕ = members_len p.tail in
    let old_len : a + m + t ≡ members_len old = omega (arith, ap members_len p.old_is, sum_by-append member_len p.head (p.middle ++ p.tail), sum_by-append member_len p.middle p.tail) in
    let new_len : a + b + t ≡ members_len new = omega (arith, ap members_len p.new_is, sum_by-append member_len p.head (added ++ p.tail), sum_by-append member_len added p.tail) in
    let pairs : run_pairs 0 0 a ++ run_pairs (a + m) (a + b) t ≡ pairs_around old new first behind =
    ap (λ n. run_pairs 0 0 a ++ run_pairs n (a + b) t) (sym (sum_by-append member_len p.head p.middle))
    ∙ ap (λ n. run_pairs 0 0 a ++ run_pairs (members_len (p.head ++ p.middle)) n t) (sym (sum_by-append member_len p.head added))
    ∙ sym (p.around behind far) in
    subst (λ n. ArePairsRising 0 0 n (members_len new) (pairs_around old new first behind)) old_len
    (subst (λ n. ArePairsRising 0 0 (a + m + t) n (pairs_around old new first behind)) new_len (subst (λ ps. ArePairsRising 0 0 (a + m + t) (a + b + t) ps) pairs (parts_rising a b m t)))

-- ---- the step

pub step_is : (stays : ℕ → Option ℕ) (steps : ℕ → Option SourceStep) (old new : List Member) (from to : List (ℕ × ℕ)) (ps : List (ℕ × ℕ)) → pairs_from 0 (map (origin stays steps (slots_from 0 old)) (slots_from 0 new)) ≡ ps → carrier_step stays steps (projection old from) (projection new to) ≡ record { old_len = members_len old; new_len = members_len new; kept = ps }
unfolding carrier_step
step_is stays steps old new from to ps kept =
    ap (λ n. made n (length (slots_from 0 new)) (pairs_from 0 (map (origin stays steps (slots_from 0 old)) (slots_from 0 new)))) (length_slots_from 0 old)
    ∙ ap (λ n. made (members_len old) n (pairs_from 0 (map (origin stays steps (slots_from 0 old)) (slots_from 0 new)))) (length_slots_from 0 new)
    ∙ ap (made (members_len old) (members_len new)) kept
  where
    made : ℕ → ℕ → List (ℕ × ℕ) → Step
    made n m pairs = record { old_len = n; new_len = m; kept = pairs }
