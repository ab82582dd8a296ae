-- The steps of the making of a password's key.
use Rattle.std.proofs.Common.{◌≡◌, ℕ, suc, ◌+◌, ◌-◌, ◌*◌, ◌/◌, ◌%◌, ◌<◌, ◌≤◌, ◌==◌, ◌≢◌, ◌||◌, Bool, true, false, nat_le, min, List, [], ◌∷◌, ◌++◌, length, take, drop, map, sym, ap, ◌∙◌, arith, ne_eqb}
use Rattle.std.proofs.lemmas.Bool.{lt-leb}
use Rattle.std.specs.Prelude.{if◌then◌else◌}
use Rattle.std.specs.List.{range_with_len}
use Rattle.std.proofs.lemmas.List.{length-take, take_min}
use Rattle.sealing.specs.Sealing.{changed_at, sealed}
use Rattle.sealing.specs.Passwords.{key_after, password_buffer, password_key, window_key, window_starts}

or_from_false : (x y : Bool) → x ≡ false → y ≡ false → (x || y) ≡ false
or_from_false x y e f = ap (λ (b : Bool). b || y) e ∙ f

-- the windows from the k-th to before the end-th, and then some more
abbrev pub windows_from : ℕ → ℕ → List ℕ → List ℕ
windows_from k end more = map (λ k. 8 * k) (range_with_len k (end - k)) ++ more

windows_next : (k end : ℕ) (more : List ℕ) → k < end → windows_from k end more ≡ 8 * k ∷ windows_from (k + 1) end more
windows_next k end more l = ap (λ (n : ℕ). map (λ k. 8 * k) (range_with_len k n) ++ more) (let e : end - k ≡ suc (end - (k + 1)) = omega arith in e)

-- one more window
pub window_step : (k end : ℕ) (more buffer next key made : List ℕ) → k < end → next ≡ changed_at (sealed key) buffer (8 * k) → made ≡ window_key (drop (8 * k) next) → key_after (windows_from (k + 1) end more) next made ≡ key_after (windows_from k end more) buffer key
unfolding key_after
window_step k end more buffer next key made l changed is =
    ap (λ (bytes : List ℕ). key_after (windows_from (k + 1) end more) next bytes) is
    ∙ ap (λ (bytes : List ℕ). key_after (windows_from (k + 1) end more) bytes (window_key (drop (8 * k) bytes))) changed
    ∙ sym (ap (λ (places : List ℕ). key_after places buffer key) (windows_next k end more l))

pub windows_all : (k end : ℕ) (more : List ℕ) → end ≤ k → windows_from k end more ≡ more
windows_all k end more l = ap (λ (n : ℕ). map (λ k. 8 * k) (range_with_len k n) ++ more) (let e : end - k ≡ 0 = omega arith in e)

-- the last window, where the others don't reach the password's end
abbrev pub last_window : ℕ → List ℕ
last_window n = if nat_le n 8 || (n % 8 == 0) then [] else (n - 8) ∷ []

-- the buffer and the first key are those of the definition
pub begun : (password buffer key : List ℕ) (count : ℕ) → count ≡ min (length password) 27 → buffer ≡ password_buffer (take count password) → key ≡ window_key buffer → key_after (windows_from 1 (count / 8) (last_window count)) buffer key ≡ password_key password
unfolding password_key window_starts
begun password buffer key count is filled made =
    let long : count ≡ length (take 27 password) = omega (arith, length-take 27 password) in
    let counted : take count password ≡ take 27 password = ap (λ (k : ℕ). take k password) (let e : count ≡ min 27 (length password) = omega arith in e) ∙ take_min 27 password in
    ap (λ (bytes : List ℕ). key_after (windows_from 1 (count / 8) (last_window count)) buffer bytes) made
    ∙ ap (λ (bytes : List ℕ). key_after (windows_from 1 (count / 8) (last_window count)) bytes (window_key bytes)) (filled ∙ ap password_buffer counted)
    ∙ ap (λ (n : ℕ). key_after (windows_from 1 (n / 8) (last_window n)) (password_buffer (take 27 password)) (window_key (password_buffer (take 27 password)))) long

-- the key of a password whose last window is a window of its own
pub ended_by_last : (count k : ℕ) (buffer next key made goal : List ℕ) → count / 8 ≤ k → 8 < count → count % 8 ≢ 0 → next ≡ changed_at (sealed key) buffer (count - 8) → made ≡ window_key (drop (count - 8) next) → key_after (windows_from k (count / 8) (last_window count)) buffer key ≡ goal → made ≡ goal
unfolding key_after
ended_by_last count k buffer next key made goal end long rest changed is so_far =
    is ∙ ap (λ (bytes : List ℕ). window_key (drop (count - 8) bytes)) changed
    ∙ sym (ap (λ (b : Bool). key_after (if b then [] else (count - 8) ∷ []) buffer key) (or_from_false _ _ (lt-leb count 8 long) (ne_eqb _ _ rest)))
    ∙ sym (ap (λ (places : List ℕ). key_after places buffer key) (windows_all k (count / 8) (last_window count) end))
    ∙ so_far

-- the key of a password that the windows at 8, 16 .. reach the end of
pub ended : (count k : ℕ) (buffer key goal : List ℕ) → count / 8 ≤ k → (nat_le count 8 || (count % 8 == 0)) ≡ true → key_after (windows_from k (count / 8) (last_window count)) buffer key ≡ goal → key ≡ goal
unfolding key_after
ended count k buffer key goal end none so_far =
    sym (ap (λ (b : Bool). key_after (if b then [] else (count - 8) ∷ []) buffer key) none)
    ∙ sym (ap (λ (places : List ℕ). key_after places buffer key) (windows_all k (count / 8) (last_window count) end))
    ∙ so_far
