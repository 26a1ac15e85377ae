-- An array made by `from_fn`, where the calls leave the closure as it was.
use Rattle.std.proofs.Common.{◌≡◌, ℕ, zero, suc, ◌+◌, ◌<◌, ◌≤◌, List, get_or, sym, subst, ⊎_elim, arith}
use Rattle.std.proofs.lemmas.Bool.{cases_eq}
use Rattle.std.specs.Array.{IsFromFnResultFrom, IsFromFnResult}
use Rattle.std.specs.Fn.{Called}
use denote.Param.Members.{Mut}

module _ {F B : Type 0} (g : Mut F (ℕ × Unit {0}) B) (P : ℕ → B → Type 0) (f : F) (step : (i : ℕ) (y : B) (q : F) → Called g f (i, tt) y q → (q ≡ f) × P i y) where
  from_place : (ys : List B) (i n : ℕ) → IsFromFnResultFrom g f ys i n → (k : ℕ) (d : B) → i ≤ k → k < i + n → P k (get_or ys k d)
  from_place ys i zero h k d l m = absurd (omega arith)
  from_place ys i (suc n) (q, y, at, call, rest) k d l m =
      let s = step i y q call in
      ⊎_elim
      (λ (e : k ≡ i). subst (λ v. P v (get_or ys v d)) (sym e) (subst (P i) (sym (at.1 d)) s.1))
      (λ (e : k ≡ i → ⊥). from_place ys (i + 1) n (subst (λ v. IsFromFnResultFrom g v ys (i + 1) n) s.0 rest) k d (omega arith) (omega arith))
      (cases_eq k i)

  -- each element is what the closure gives of its index
  pub made_at : (ys : List B) (n : ℕ) → IsFromFnResult g f ys n → (k : ℕ) (d : B) → k < n → P k (get_or ys k d)
  made_at ys n h k d l = from_place ys 0 n h.each k d (omega arith) (omega arith)
