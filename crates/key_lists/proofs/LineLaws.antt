-- The keys after some lines, told line by line and told from the first line on.
use Rattle.std.proofs.Common.{◌≡◌, ℕ, ◌+◌, List, [], ◌∷◌, ◌++◌, Bool, true, false, cond, ◌||◌, not, reverse, refl, sym, ap, ◌∙◌, arith}
use Rattle.std.specs.List.{list_any, filter}
use Rattle.std.proofs.lemmas.List.{append-nil, reverse-append}
use Rattle.std.proofs.lemmas.List.Folds.{list_any-append}
use Rattle.key_lists.specs.Lists.{KeyEntry, next_entry}
use Rattle.key_lists.specs.Edits.{KeyEdit, Add, Delete, keys_after, drops, standing, additions}

-- the keys that a line leaves
abbrev pub left_by : KeyEdit → List KeyEntry → List KeyEntry
left_by line keys = filter (λ key. not (drops key.tuple line)) keys

-- a key stays where neither the later lines nor the last one drop it
stays : (line : KeyEdit) (key : KeyEntry) (more rest end : List KeyEntry) → more ≡ left_by line rest ++ end → (later last : Bool) → last ≡ drops key.tuple line
    → cond (later || (last || false)) more (key ∷ more) ≡ left_by line (cond later rest (key ∷ rest)) ++ end
stays line key more rest end e true last d = e
stays line key more rest end e false true d = rw (← d) e
stays line key more rest end e false false d = rw (← d) (ap (λ (keys : List KeyEntry). key ∷ keys) e)

-- one more line
standing_more : (line : KeyEdit) (earlier : ℕ) (lines : List KeyEdit) → standing earlier (lines ++ line ∷ []) ≡ left_by line (standing earlier lines) ++ standing (earlier + additions lines) (line ∷ [])
standing_more line earlier [] = ap (λ n. standing n (line ∷ [])) (let e : earlier ≡ earlier + 0 = omega arith in e)
standing_more line earlier (Delete template ∷ lines) = standing_more line earlier lines
standing_more line earlier (Add key ∷ lines) =
    let entry : KeyEntry = record { tuple = key; serial = earlier + 1 } in
    let count : earlier + 1 + additions lines ≡ earlier + (additions lines + 1) = omega arith in
    let more = standing_more line (earlier + 1) lines ∙ ap (λ n. left_by line (standing (earlier + 1) lines) ++ standing n (line ∷ [])) count in
    ap (λ (b : Bool). cond b (standing (earlier + 1) (lines ++ line ∷ [])) (entry ∷ standing (earlier + 1) (lines ++ line ∷ []))) (list_any-append (drops key) lines (line ∷ []))
    ∙ stays line entry (standing (earlier + 1) (lines ++ line ∷ [])) (standing (earlier + 1) lines) (standing (earlier + (additions lines + 1)) (line ∷ [])) more (list_any (drops key) lines) (drops key line) refl

additions_more : (line : KeyEdit) (lines : List KeyEdit) → additions (lines ++ line ∷ []) ≡ additions lines + additions (line ∷ [])
additions_more line [] = omega arith
additions_more line (Delete template ∷ lines) = additions_more line lines
additions_more line (Add key ∷ lines) = omega (arith, additions_more line lines)

pub numbers_are_counts : (lines : List KeyEdit) → (keys_after lines).ever_added ≡ additions (reverse lines)
numbers_are_counts [] = refl
numbers_are_counts (Add key ∷ before) =
    ap (λ n. n + 1) (numbers_are_counts before) ∙ sym (additions_more (Add key) (reverse before)) ∙ sym (ap additions (reverse-append (Add key ∷ []) before))
numbers_are_counts (Delete template ∷ before) =
    let none : additions (reverse before) ≡ additions (reverse before) + 0 = omega arith in
    numbers_are_counts before ∙ none ∙ sym (additions_more (Delete template) (reverse before)) ∙ sym (ap additions (reverse-append (Delete template ∷ []) before))

pub keys_are_standing : (lines : List KeyEdit) → (keys_after lines).keys ≡ standing 0 (reverse lines)
keys_are_standing [] = refl
keys_are_standing (Add key ∷ before) =
    let count : (keys_after before).ever_added + 1 ≡ 0 + additions (reverse before) + 1 = omega (arith, numbers_are_counts before) in
    ap (λ (keys : List KeyEntry). left_by (Add key) keys ++ next_entry key (keys_after before) ∷ []) (keys_are_standing before)
    ∙ ap (λ n. left_by (Add key) (standing 0 (reverse before)) ++ record { tuple = key; serial = n } ∷ []) count
    ∙ sym (standing_more (Add key) 0 (reverse before)) ∙ sym (ap (standing 0) (reverse-append (Add key ∷ []) before))
keys_are_standing (Delete template ∷ before) =
    ap (left_by (Delete template)) (keys_are_standing before) ∙ sym (append-nil (left_by (Delete template) (standing 0 (reverse before))))
    ∙ sym (standing_more (Delete template) 0 (reverse before)) ∙ sym (ap (standing 0) (reverse-append (Delete template ∷ []) before))
