-- The tags of the questions of a file rise, so that behind a reply the questions of all others stand.
use Rattle.std.proofs.Common.{◌≡◌, ℕ, ◌+◌, List, [], ◌∷◌, ◌++◌, map, Bool, true, false, cond, eqb, ltb, ◌||◌, not, Some, None, refl, sym, ap, subst, ◌∙◌, append_assoc, arith}
use Rattle.std.specs.List.{filter, list_all, list_any}
use Rattle.std.proofs.lemmas.Bool.{and_from, and_parts, eq-eqb, eqb-true, ltb-true, ne_eqb}
use Rattle.std.proofs.lemmas.List.{map-append}
use Rattle.side_files.specs.declared.line.PromptKind.{PromptKind}
use Rattle.side_files.specs.declared.prompt.Asker.{Asker}
use Rattle.side_files.specs.Askers.{asker_in, without_tag}
use Rattle.side_files.specs.Questions.{Questions, asked_by, asker, asker_of, next_line, prompt, replied, withdrawn}
use Rattle.side_files.specs.Questions as asked
use Rattle.side_files.specs.Calls as side
use Rattle.agent_laws.proofs.ConversationLaws.{Rise, rise_append, rise_from, rise_kept, rise_parts}
use Rattle.agent_laws.proofs.PromptLaws.{askers_in, read_lists, withdrawn_others}

abbrev tag_of : Asker → ℕ
tag_of a = a.tag

-- ---- tags rise

above_front : (n : ℕ) (keep : Asker → Bool) (xs ys : List Asker) → list_all (ltb n) (map tag_of (xs ++ ys)) ≡ true → list_all (ltb n) (map tag_of (filter keep xs ++ ys)) ≡ true
above_front n keep [] ys h = h
above_front n keep (a ∷ xs) ys h =
    let parts = and_parts (ltb n a.tag) (list_all (ltb n) (map tag_of (xs ++ ys))) h in
    step (keep a) parts.0 (above_front n keep xs ys parts.1)
  where
    step : (b : Bool) → ltb n a.tag ≡ true → list_all (ltb n) (map tag_of (filter keep xs ++ ys)) ≡ true → list_all (ltb n) (map tag_of (cond b (a ∷ filter keep xs) (filter keep xs) ++ ys)) ≡ true
    step true e more = and_from (ltb n a.tag) _ e more
    step false e more = more

-- some of the front are left out
rise_front : (top : ℕ) (keep : Asker → Bool) (xs ys : List Asker) → Rise top (map tag_of (xs ++ ys)) → Rise top (map tag_of (filter keep xs ++ ys))
rise_front top keep [] ys h = h
rise_front top keep (a ∷ xs) ys h =
    let parts = rise_parts top a.tag (map tag_of (xs ++ ys)) h in
    step (keep a) parts.below (above_front a.tag keep xs ys parts.above) (rise_front top keep xs ys parts.rest)
  where
    step : (b : Bool) → ltb a.tag top ≡ true → list_all (ltb a.tag) (map tag_of (filter keep xs ++ ys)) ≡ true → Rise top (map tag_of (filter keep xs ++ ys)) → Rise top (map tag_of (cond b (a ∷ filter keep xs) (filter keep xs) ++ ys))
    step true below above more = rise_from top a.tag (map tag_of (filter keep xs ++ ys)) (record { below = below; above = above; rest = more })
    step false below above more = more

standing_more : (conv : ℕ) (line : List ℕ) (q : Questions) → asked.standing (asked_by conv line q) ≡ asked.standing q ++ record { tag = q.asked + 1; conv = conv } ∷ []
standing_more conv line q =
    ap (λ (ws : List Asker). q.opened ++ ws) (map-append asker q.unread (prompt (q.asked + 1) conv line ∷ []))
    ∙ sym (append_assoc q.opened (map asker q.unread) (asker (prompt (q.asked + 1) conv line) ∷ []))

tags_rise : (kind : PromptKind) (made : List side.Call) → Rise ((side.after kind made).asked + 1) (map tag_of (asked.standing (side.after kind made)))
tags_rise kind [] = refl
tags_rise kind (side.Asked conv about ∷ before) =
    let q = side.after kind before in
    subst (λ (ws : List Asker). Rise (q.asked + 1 + 1) (map tag_of ws)) (sym (standing_more conv (next_line q about) q))
    (rise_append tag_of (q.asked + 1) (asked.standing q) (record { tag = q.asked + 1; conv = conv }) refl (tags_rise kind before))
tags_rise kind (side.Read ∷ before) =
    let q = side.after kind before in
    subst (λ (ws : List Asker). Rise (q.asked + 1) (map tag_of ws)) (sym (read_lists q.opened q.unread)) (tags_rise kind before)
tags_rise kind (side.Replied tag ∷ before) =
    let q = side.after kind before in
    rise_front (q.asked + 1) (λ (a : Asker). not (eqb a.tag tag)) q.opened (map asker q.unread) (tags_rise kind before)
tags_rise kind (side.Withdrawn conv ∷ before) =
    let q = side.after kind before in
    subst (λ (ws : List Asker). Rise (q.asked + 1) (map tag_of ws)) (sym (withdrawn_others conv q)) (rise_kept tag_of (q.asked + 1) (λ (a : Asker). not (eqb a.conv conv)) (asked.standing q) (tags_rise kind before))

-- ---- who is left behind a reply

abbrev conv_of : Asker → ℕ
conv_of a = a.conv

-- none of the tag is among those with greater ones
none_of_tag : (n : ℕ) (xs ys : List Asker) → list_all (ltb n) (map tag_of (xs ++ ys)) ≡ true → without_tag n xs ≡ xs
none_of_tag n [] ys h = refl
none_of_tag n (a ∷ xs) ys h =
    let parts = and_parts (ltb n a.tag) (list_all (ltb n) (map tag_of (xs ++ ys))) h in
    rw (ne_eqb a.tag n (λ e. omega (arith, ltb-true n a.tag parts.0, e)), none_of_tag n xs ys parts.1) refl

-- who isn't the first of them is among the others
other_there : (conv n : ℕ) (rest : Bool) → eqb n conv ≡ false → (eqb conv n || rest) ≡ true → rest ≡ true
other_there conv n rest off e = by_it (eqb conv n) refl e
  where
    by_it : (b : Bool) → eqb conv n ≡ b → (b || rest) ≡ true → rest ≡ true
    by_it true is f = absurd (let no_way : true ≡ false = sym (eq-eqb n conv (sym (eqb-true conv n is))) ∙ off in cc)
    by_it false is f = f

kept_asks : (top tag c conv : ℕ) (xs ys : List Asker) → asker_in tag xs ≡ Some c → eqb c conv ≡ false → Rise top (map tag_of (xs ++ ys)) → list_any (eqb conv) (map conv_of (xs ++ ys)) ≡ true → list_any (eqb conv) (map conv_of (without_tag tag xs ++ ys)) ≡ true
kept_asks top tag c conv [] ys e off rise there = absurd cc
kept_asks top tag c conv (a ∷ xs) ys e off rise there =
    let parts = rise_parts top a.tag (map tag_of (xs ++ ys)) rise in
    by_tag (eqb a.tag tag) refl e parts.above (λ f more. kept_asks top tag c conv xs ys f off parts.rest more)
  where
    by_conv : (b : Bool) → (b || list_any (eqb conv) (map conv_of (xs ++ ys))) ≡ true → (list_any (eqb conv) (map conv_of (xs ++ ys)) ≡ true → list_any (eqb conv) (map conv_of (without_tag tag xs ++ ys)) ≡ true) → (b || list_any (eqb conv) (map conv_of (without_tag tag xs ++ ys))) ≡ true
    by_conv true f more = refl
    by_conv false f more = more f

    by_tag : (b : Bool) → eqb a.tag tag ≡ b → cond b (Some a.conv) (asker_in tag xs) ≡ Some c → list_all (ltb a.tag) (map tag_of (xs ++ ys)) ≡ true
        → (asker_in tag xs ≡ Some c → list_any (eqb conv) (map conv_of (xs ++ ys)) ≡ true → list_any (eqb conv) (map conv_of (without_tag tag xs ++ ys)) ≡ true)
        → list_any (eqb conv) (map conv_of (cond (not b) (a ∷ without_tag tag xs) (without_tag tag xs) ++ ys)) ≡ true
    by_tag true is f above more =
        let same : a.conv ≡ c = cc in
        let all : without_tag tag xs ≡ xs = subst (λ (n : ℕ). without_tag n xs ≡ xs) (eqb-true a.tag tag is) (none_of_tag a.tag xs ys above) in
        subst (λ (ws : List Asker). list_any (eqb conv) (map conv_of (ws ++ ys)) ≡ true) (sym all) (other_there conv a.conv (list_any (eqb conv) (map conv_of (xs ++ ys))) (ap (λ (n : ℕ). eqb n conv) same ∙ off) there)
    by_tag false is f above more = by_conv (eqb conv a.conv) there (more f)

-- behind the reply to a question, all others that ask still do
pub others_ask : (kind : PromptKind) (made : List side.Call) (tag c conv : ℕ) → asker_of tag (side.after kind made) ≡ Some c → eqb c conv ≡ false → list_any (eqb conv) (askers_in (side.after kind made)) ≡ true
    → list_any (eqb conv) (askers_in (replied tag (side.after kind made))) ≡ true
others_ask kind made tag c conv e off there =
    let q = side.after kind made in
    kept_asks (q.asked + 1) tag c conv q.opened (map asker q.unread) e off (tags_rise kind made) there

-- and where nobody asked under the tag, all do
nobody_left : (tag : ℕ) (xs : List Asker) → asker_in tag xs ≡ None → without_tag tag xs ≡ xs
nobody_left tag [] e = refl
nobody_left tag (a ∷ xs) e = by_tag (eqb a.tag tag) e (λ f. nobody_left tag xs f)
  where
    by_tag : (b : Bool) → cond b (Some a.conv) (asker_in tag xs) ≡ None → (asker_in tag xs ≡ None → without_tag tag xs ≡ xs) → cond (not b) (a ∷ without_tag tag xs) (without_tag tag xs) ≡ a ∷ xs
    by_tag true f more = absurd cc
    by_tag false f more = ap (λ (ws : List Asker). a ∷ ws) (more f)

pub all_ask : (tag : ℕ) (q : Questions) → asker_of tag q ≡ None → askers_in (replied tag q) ≡ askers_in q
all_ask tag q e = ap (λ (ws : List Asker). map conv_of (ws ++ map asker q.unread)) (nobody_left tag q.opened e)
