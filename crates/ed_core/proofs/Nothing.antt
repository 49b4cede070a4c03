-- An edit without a change: nothing is sent down, and nothing can be at fault.
use Rattle.std.proofs.Common.{◌≡◌, ℕ, zero, suc, ◌+◌, Bool, true, false, not, ◌&&◌, List, [], ◌∷◌, ◌++◌, length, filter, fold, replicate, Some, None, refl, ◌∙◌, ap, arith}
use Rattle.std.specs.Prelude.{nat_eq}
use Rattle.std.specs.List.{range_with_len}
use Rattle.std.proofs.lemmas.Bool.Decides.{nat_tests}
use Rattle.std.proofs.lemmas.List.{length-map}
use Rattle.std.proofs.lemmas.List.FromFn.{length-range_with_len}
use Rattle.ed_base.specs.declared.piece.Piece.{Piece}
use Rattle.ed_base.specs.Edit.{woven}
use Rattle.ed_base.specs.ChangeList.{components}
use Rattle.ed_base.specs.Hooks.{HookTable}
use Rattle.ed_base.specs.Numbers.{or_else, places}
use Rattle.ed_base.specs.Step.{pairs_from}
use Rattle.ed_base.proofs.NormalSteps.{olds, pairs_olds, run}
use Rattle.ed_layers.specs.Pieces.{arrived, component, marked_text, piece_origins}
use Rattle.ed_layers.specs.Records.{is_carrier, members_of}
use Rattle.ed_layers.specs.Sending.{sent, sending_fault}
use Rattle.ed_stock.specs.Landing.{carriers_down, components_at, denial, denied_in, down_fault, down_fault_from, resolver_of, sent_down, sent_from}
use Rattle.ed_stock.specs.Stock.{Stock, count, record_now, text_now}
use Rattle.ed_stock.specs.Versions.{none_given}
use Rattle.ed_stock.specs.Landing.{landed}
use Rattle.ed_machine.specs.State.{State}
use Rattle.ed_machine.specs.Accepted.{edit_group, edited_to}

pub nothing_woven : {X : Type 0} (p : ℕ) (xs : List X) → woven (λ q. []) (λ q. false) p xs ≡ xs
nothing_woven p [] = refl
nothing_woven p (x ∷ xs) = ap (λ ys. x ∷ ys) (nothing_woven (p + 1) xs)

nothing_between : {X C : Type 0} (make : ℕ → ℕ → List X → C) (new : List X) (i k n : ℕ) → n ≡ i + k → components make new i i (run i i k) n n ≡ []
nothing_between make new i zero n end = let e : nat_eq i n ≡ true = grind (arith, nat_tests) in rw e refl
nothing_between make new i (suc k) n end =
    let e : nat_eq i i ≡ true = grind (arith, nat_tests) in
    rw e (nothing_between make new (i + 1) k n (omega arith))

nothing_arrived : (n : ℕ) → arrived [] n ≡ []
unfolding arrived
nothing_arrived n =
    let same : piece_origins [] n ≡ olds 0 n = nothing_woven 0 (olds 0 n) in
    let kept : pairs_from 0 (piece_origins [] n) ≡ run 0 0 n = ap (pairs_from 0) same ∙ pairs_olds 0 0 n in
    let len : length (piece_origins [] n) ≡ n = ap length same ∙ length-map (range_with_len 0 n) (λ p. Some p) ∙ length-range_with_len 0 n in
    ap (λ k. components component (marked_text [] (replicate n 0)) 0 0 k n (length (piece_origins [] n))) kept
    ∙ ap (λ m. components component (marked_text [] (replicate n 0)) 0 0 (run 0 0 n) n m) len
    ∙ nothing_between component (marked_text [] (replicate n 0)) 0 n n (omega arith)

-- ---- down

module _ (hooks : HookTable) (s : Stock) where
  sent_on : (b : ℕ) → sent_from hooks s [] b ≡ []
  sent_on b = ap (sent b (members_of (record_now s b)) (resolver_of hooks s b)) (nothing_arrived (length (text_now s b)))

  all_sent : (bs : List ℕ) → fold (sent_from hooks s) [] bs ≡ []
  all_sent [] = refl
  all_sent (b ∷ bs) = ap (λ ps. fold (sent_from hooks s) ps bs) (sent_on b) ∙ all_sent bs

  pub nothing_sent : sent_down hooks s [] ≡ []
  unfolding sent_down
  nothing_sent = all_sent (carriers_down s)

  no_faults : (bs : List ℕ) → down_fault_from hooks s [] bs ≡ None
  no_faults [] = refl
  no_faults (b ∷ bs) =
      ap (λ cs. or_else (sending_fault b (members_of (record_now s b)) cs) (down_fault_from hooks s (sent_from hooks s [] b) bs)) (nothing_arrived (length (text_now s b)))
      ∙ ap (λ ps. down_fault_from hooks s ps bs) (sent_on b) ∙ no_faults bs

  pub nothing_faulty : down_fault hooks s [] ≡ None
  unfolding down_fault
  nothing_faulty = no_faults (carriers_down s)

  -- what there was stands first
  goes_first : (p : ℕ × Piece) (ps : List (ℕ × Piece)) (bs : List ℕ) → (rest : List (ℕ × Piece)) × (fold (sent_from hooks s) (p ∷ ps) bs ≡ p ∷ rest)
  goes_first p ps [] = (ps, refl)
  goes_first p ps (b ∷ bs) = goes_first p (ps ++ sent b (members_of (record_now s b)) (resolver_of hooks s b) (components_at s (p ∷ ps) b)) bs

  some_sent : (p : ℕ × Piece) (ps : List (ℕ × Piece)) → (rest : List (ℕ × Piece)) × (sent_down hooks s (p ∷ ps) ≡ p ∷ rest)
  unfolding sent_down
  some_sent p ps = goes_first p ps (carriers_down s)

-- an edit with a change makes versions
pub some_landed : (hooks : HookTable) (s : State) (p : ℕ × Piece) (ps : List (ℕ × Piece)) → edit_group s (sent_down hooks s.stock (p ∷ ps)) ≡ edited_to s (landed s.stock (sent_down hooks s.stock (p ∷ ps)) none_given none_given)
some_landed hooks s p ps = let first = some_sent hooks s.stock p ps in rw first.1 refl

-- ---- denials

none-left : (p : ℕ → Bool) → ((x : ℕ) → p x ≡ false) → (xs : List ℕ) → filter p xs ≡ []
none-left p never [] = refl
none-left p never (x ∷ xs) = rw (never x) (none-left p never xs)

and-false : (b : Bool) → (b && false) ≡ false
and-false true = refl
and-false false = refl

pub nothing_denied : (hooks : HookTable) (s : Stock) → denial hooks s [] ≡ None
nothing_denied hooks s = ap (denied_in hooks s []) (none-left _ (λ b. and-false (not (is_carrier (record_now s b)))) (places (count s)))
