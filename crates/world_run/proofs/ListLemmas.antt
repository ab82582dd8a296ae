-- Lists of conversations, by name and by node.
use Rattle.std.proofs.Common.{◌≡◌, ℕ, List, [], ◌∷◌, ◌++◌, map, filter, Bool, true, false, cond, not, Option, Some, None, ◌⊎◌, refl, sym, ap, subst, ◌∙◌, inl, inr}
use Rattle.std.specs.Prelude.{find}
use Rattle.std.specs.Str.{bytes_eq}
use Rattle.std.specs.Cmp.Lexicographic.{bytes_decides}
use Rattle.std.proofs.lemmas.Bool.{cases_Bool, cond-true, cond-false, false≢true}
use Rattle.world_history.specs.Acts.{Talk, fids_on}
use Rattle.world_run.specs.PlayStanding.{AreOn, AreOthers, conv_on}

-- ---- names

pub same_name : (a : List ℕ) → bytes_eq a a ≡ true
same_name a = (bytes_decides a a).1 refl

pub names_turn : (a b : List ℕ) → bytes_eq a b ≡ true → bytes_eq b a ≡ true
names_turn a b e = subst (λ (x : List ℕ). bytes_eq x a ≡ true) ((bytes_decides a b).0 e) (same_name a)

-- ---- by node

-- the fids of a node's conversations
pub fids_named : (node : List ℕ) (ts : List Talk) → map (λ (o : List ℕ × ℕ). o.1) (conv_on node ts) ≡ fids_on node ts
fids_named node [] = refl
fids_named node (t ∷ ts) = elim (cases_Bool (bytes_eq t.node node)) [
  | inl is ↦ rw (is, fids_named node ts) refl
  | inr is ↦ rw (is, fids_named node ts) refl
]

-- one more behind the others
pub one_more : (node : List ℕ) (ts : List Talk) (t : Talk) → conv_on node (ts ++ t ∷ []) ≡ cond (bytes_eq t.node node) (conv_on node ts ++ (t.conv, t.fid) ∷ []) (conv_on node ts)
one_more node [] t = elim (cases_Bool (bytes_eq t.node node)) [
  | inl is ↦ rw is refl
  | inr is ↦ rw is refl
]
one_more node (x ∷ ts) t = elim (cases_Bool (bytes_eq x.node node)) [
  | inl is ↦ rw is (ap (λ (os : List (List ℕ × ℕ)). (x.conv, x.fid) ∷ os) (one_more node ts t) ∙ moved (bytes_eq t.node node))
  | inr is ↦ rw is (one_more node ts t)
] where
  moved : (b : Bool) → (x.conv, x.fid) ∷ cond b (conv_on node ts ++ (t.conv, t.fid) ∷ []) (conv_on node ts) ≡ cond b ((x.conv, x.fid) ∷ conv_on node ts ++ (t.conv, t.fid) ∷ []) ((x.conv, x.fid) ∷ conv_on node ts)
  moved true = refl
  moved false = refl

-- ---- by name

pub none_of : (conv : List ℕ) (ts : List Talk) → AreOthers conv ts → find (λ t. bytes_eq t.conv conv) ts ≡ None
none_of conv [] others = refl
none_of conv (t ∷ ts) others = rw others.0 (none_of conv ts others.1)

-- one more of another name changes nothing that a name finds
pub found_more : (conv : List ℕ) (ts : List Talk) (t : Talk) → bytes_eq t.conv conv ≡ false → find (λ x. bytes_eq x.conv conv) (ts ++ t ∷ []) ≡ find (λ x. bytes_eq x.conv conv) ts
found_more conv [] t other = rw other refl
found_more conv (x ∷ ts) t other = ap (λ (o : Option Talk). cond (bytes_eq x.conv conv) (Some x) o) (found_more conv ts t other)

-- one that is the first of its name is found
pub found_new : (conv : List ℕ) (ts : List Talk) (t : Talk) → AreOthers conv ts → bytes_eq t.conv conv ≡ true → find (λ x. bytes_eq x.conv conv) (ts ++ t ∷ []) ≡ Some t
found_new conv [] t others its = rw its refl
found_new conv (x ∷ ts) t others its = rw others.0 (found_new conv ts t others.1 its)

pub others_more : (conv : List ℕ) (ts : List Talk) (t : Talk) → bytes_eq t.conv conv ≡ false → AreOthers conv ts → AreOthers conv (ts ++ t ∷ [])
others_more conv [] t other others = (other, tt)
others_more conv (x ∷ ts) t other others = (others.0, others_more conv ts t other others.1)

pub alone_more : (conv node : List ℕ) (ts : List Talk) (t : Talk) → bytes_eq t.conv conv ≡ false → AreOn conv node ts → AreOn conv node (ts ++ t ∷ [])
alone_more conv node [] t other alone = ((λ its. absurd (false≢true (sym other ∙ its))), tt)
alone_more conv node (x ∷ ts) t other alone = (alone.0, alone_more conv node ts t other alone.1)

pub alone_new : (conv node : List ℕ) (ts : List Talk) (t : Talk) → AreOthers conv ts → bytes_eq node t.node ≡ true → AreOn conv node (ts ++ t ∷ [])
alone_new conv node [] t others on = ((λ _. on), tt)
alone_new conv node (x ∷ ts) t others on = ((λ its. absurd (false≢true (sym others.0 ∙ its))), alone_new conv node ts t others.1 on)

-- ---- a name that is closed

abbrev without : List ℕ → List Talk → List Talk
without conv ts = filter (λ t. not (bytes_eq t.conv conv)) ts

pub others_left : (conv closed : List ℕ) (ts : List Talk) → AreOthers conv ts → AreOthers conv (without closed ts)
others_left conv closed [] others = tt
others_left conv closed (t ∷ ts) others = elim (cases_Bool (bytes_eq t.conv closed)) [
  | inl is ↦ rw is (others_left conv closed ts others.1)
  | inr is ↦ rw is (others.0, others_left conv closed ts others.1)
]

pub none_left : (conv : List ℕ) (ts : List Talk) → AreOthers conv (without conv ts)
none_left conv [] = tt
none_left conv (t ∷ ts) = elim (cases_Bool (bytes_eq t.conv conv)) [
  | inl is ↦ rw is (none_left conv ts)
  | inr is ↦ subst (λ (l : List Talk). AreOthers conv l) (sym (cond-true (not (bytes_eq t.conv conv)) (t ∷ without conv ts) (without conv ts) (ap not is))) (is, none_left conv ts)
]

pub alone_left : (conv node closed : List ℕ) (ts : List Talk) → AreOn conv node ts → AreOn conv node (without closed ts)
alone_left conv node closed [] alone = tt
alone_left conv node closed (t ∷ ts) alone = elim (cases_Bool (bytes_eq t.conv closed)) [
  | inl is ↦ rw is (alone_left conv node closed ts alone.1)
  | inr is ↦ rw is (alone.0, alone_left conv node closed ts alone.1)
]

-- another name finds what it found
pub found_left : (conv closed : List ℕ) (ts : List Talk) → bytes_eq closed conv ≡ false → find (λ t. bytes_eq t.conv conv) (without closed ts) ≡ find (λ t. bytes_eq t.conv conv) ts
found_left conv closed [] other = refl
found_left conv closed (t ∷ ts) other = elim (cases_Bool (bytes_eq t.conv closed)) [
  | inl is ↦ rw is (found_left conv closed ts other ∙ sym (cond-false _ _ _ (subst (λ (x : List ℕ). bytes_eq x conv ≡ false) (sym ((bytes_decides t.conv closed).0 is)) other)))
  | inr is ↦ rw is (ap (λ (o : Option Talk). cond (bytes_eq t.conv conv) (Some t) o) (found_left conv closed ts other))
]

-- one of that name goes, from its node alone
left_one : (conv node other : List ℕ) (t : Talk) (ts : List Talk) → bytes_eq t.conv conv ≡ true → bytes_eq node t.node ≡ true
    → conv_on other (without conv ts) ≡ cond (bytes_eq node other) (filter (λ (o : List ℕ × ℕ). not (bytes_eq o.0 conv)) (conv_on other ts)) (conv_on other ts)
    → conv_on other (without conv (t ∷ ts)) ≡ cond (bytes_eq node other) (filter (λ (o : List ℕ × ℕ). not (bytes_eq o.0 conv)) (conv_on other (t ∷ ts))) (conv_on other (t ∷ ts))
left_one conv node other t ts its on left =
    let same : bytes_eq t.node other ≡ bytes_eq node other = ap (λ (x : List ℕ). bytes_eq x other) (sym ((bytes_decides node t.node).0 on)) in
    elim (cases_Bool (bytes_eq node other)) [
      | inl there ↦ rw (its, there, same ∙ there, its) (left ∙ cond-true _ _ _ there)
      | inr there ↦ rw (its, there, same ∙ there) (left ∙ cond-false _ _ _ there)
    ]

-- what a node has open then
pub left_on : (conv node other : List ℕ) (ts : List Talk) → AreOn conv node ts → conv_on other (without conv ts) ≡ cond (bytes_eq node other) (filter (λ (o : List ℕ × ℕ). not (bytes_eq o.0 conv)) (conv_on other ts)) (conv_on other ts)
left_on conv node other [] alone = elim (cases_Bool (bytes_eq node other)) [
  | inl is ↦ rw is refl
  | inr is ↦ rw is refl
]
left_on conv node other (t ∷ ts) alone = elim (cases_Bool (bytes_eq t.conv conv)) [
  | inl its ↦ left_one conv node other t ts its (alone.0 its) (left_on conv node other ts alone.1)
  | inr its ↦ elim (cases_Bool (bytes_eq t.node other)) [
    | inl there ↦ rw (its, there) (ap (λ (os : List (List ℕ × ℕ)). (t.conv, t.fid) ∷ os) (left_on conv node other ts alone.1) ∙ moved (bytes_eq node other) its)
    | inr there ↦ rw (its, there) (left_on conv node other ts alone.1)
  ]
] where
  moved : (b : Bool) → bytes_eq t.conv conv ≡ false → (t.conv, t.fid) ∷ cond b (filter (λ (o : List ℕ × ℕ). not (bytes_eq o.0 conv)) (conv_on other ts)) (conv_on other ts) ≡ cond b (filter (λ (o : List ℕ × ℕ). not (bytes_eq o.0 conv)) ((t.conv, t.fid) ∷ conv_on other ts)) ((t.conv, t.fid) ∷ conv_on other ts)
  moved true its = rw its refl
  moved false its = refl

-- ---- a node that is restarted

abbrev pub off : List ℕ → List Talk → List Talk
off node ts = filter (λ t. not (bytes_eq t.node node)) ts

off_kept : (node : List ℕ) (t : Talk) (ts : List Talk) → bytes_eq t.node node ≡ false → off node (t ∷ ts) ≡ t ∷ off node ts
off_kept node t ts other = cond-true (not (bytes_eq t.node node)) (t ∷ off node ts) (off node ts) (ap not other)

off_gone : (node : List ℕ) (t : Talk) (ts : List Talk) → bytes_eq t.node node ≡ true → off node (t ∷ ts) ≡ off node ts
off_gone node t ts is = cond-false (not (bytes_eq t.node node)) (t ∷ off node ts) (off node ts) (ap not is)

pub others_off : (conv node : List ℕ) (ts : List Talk) → AreOthers conv ts → AreOthers conv (off node ts)
others_off conv node [] others = tt
others_off conv node (t ∷ ts) others = elim (cases_Bool (bytes_eq t.node node)) [
  | inl is ↦ subst (λ (l : List Talk). AreOthers conv l) (sym (off_gone node t ts is)) (others_off conv node ts others.1)
  | inr is ↦ subst (λ (l : List Talk). AreOthers conv l) (sym (off_kept node t ts is)) (others.0, others_off conv node ts others.1)
]

-- those of a name that are all on it go
pub none_off : (conv node : List ℕ) (ts : List Talk) → AreOn conv node ts → AreOthers conv (off node ts)
none_off conv node [] alone = tt
none_off conv node (t ∷ ts) alone = elim (cases_Bool (bytes_eq t.node node)) [
  | inl is ↦ subst (λ (l : List Talk). AreOthers conv l) (sym (off_gone node t ts is)) (none_off conv node ts alone.1)
  | inr is ↦ subst (λ (l : List Talk). AreOthers conv l) (sym (off_kept node t ts is)) (elsewhere (cases_Bool (bytes_eq t.conv conv)) is, none_off conv node ts alone.1)
] where
  elsewhere : (bytes_eq t.conv conv ≡ true) ⊎ (bytes_eq t.conv conv ≡ false) → bytes_eq t.node node ≡ false → bytes_eq t.conv conv ≡ false
  elsewhere (inl its) is = absurd (false≢true (sym is ∙ names_turn node t.node (alone.0 its)))
  elsewhere (inr its) is = its

pub alone_off : (conv on node : List ℕ) (ts : List Talk) → AreOn conv on ts → AreOn conv on (off node ts)
alone_off conv on node [] alone = tt
alone_off conv on node (t ∷ ts) alone = elim (cases_Bool (bytes_eq t.node node)) [
  | inl is ↦ subst (λ (l : List Talk). AreOn conv on l) (sym (off_gone node t ts is)) (alone_off conv on node ts alone.1)
  | inr is ↦ subst (λ (l : List Talk). AreOn conv on l) (sym (off_kept node t ts is)) (alone.0, alone_off conv on node ts alone.1)
]

-- one that is on another is found
pub found_off : (conv node : List ℕ) (ts : List Talk) (u : Talk) → bytes_eq u.node node ≡ false → find (λ t. bytes_eq t.conv conv) ts ≡ Some u → find (λ t. bytes_eq t.conv conv) (off node ts) ≡ Some u
found_off conv node [] u other found = found
found_off conv node (t ∷ ts) u other found = elim (cases_Bool (bytes_eq t.conv conv)) [
  | inl its ↦
      let s : Some t ≡ Some u = sym (cond-true (bytes_eq t.conv conv) (Some t) (find (λ x. bytes_eq x.conv conv) ts) its) ∙ found in
      let same : t ≡ u = cc in
      ap (find (λ x. bytes_eq x.conv conv)) (off_kept node t ts (ap (λ (x : Talk). bytes_eq x.node node) same ∙ other))
      ∙ (cond-true (bytes_eq t.conv conv) (Some t) (find (λ x. bytes_eq x.conv conv) (off node ts)) its ∙ s)
  | inr its ↦
      let later = found_off conv node ts u other (sym (cond-false (bytes_eq t.conv conv) (Some t) (find (λ x. bytes_eq x.conv conv) ts) its) ∙ found) in
      elim (cases_Bool (bytes_eq t.node node)) [
        | inl is ↦ ap (find (λ x. bytes_eq x.conv conv)) (off_gone node t ts is) ∙ later
        | inr is ↦ ap (find (λ x. bytes_eq x.conv conv)) (off_kept node t ts is) ∙ (cond-false (bytes_eq t.conv conv) (Some t) (find (λ x. bytes_eq x.conv conv) (off node ts)) its ∙ later)
      ]
]

-- what a node has open then
on_kept : (name : List ℕ) (t : Talk) (ts : List Talk) → bytes_eq t.node name ≡ true → conv_on name (t ∷ ts) ≡ (t.conv, t.fid) ∷ conv_on name ts
on_kept name t ts is = rw is refl

on_other : (name : List ℕ) (t : Talk) (ts : List Talk) → bytes_eq t.node name ≡ false → conv_on name (t ∷ ts) ≡ conv_on name ts
on_other name t ts is = rw is refl

pub off_on : (node name : List ℕ) (ts : List Talk) → conv_on name (off node ts) ≡ cond (bytes_eq node name) [] (conv_on name ts)
off_on node name [] = elim (cases_Bool (bytes_eq node name)) [
  | inl is ↦ rw is refl
  | inr is ↦ rw is refl
]
off_on node name (t ∷ ts) = elim (cases_Bool (bytes_eq t.node node)) [
  | inl its ↦ ap (conv_on name) (off_gone node t ts its) ∙ (off_on node name ts ∙ gone its (cases_Bool (bytes_eq node name)))
  | inr its ↦ ap (conv_on name) (off_kept node t ts its) ∙ kept its (off_on node name ts) (cases_Bool (bytes_eq t.node name))
] where
  gone : bytes_eq t.node node ≡ true → (bytes_eq node name ≡ true) ⊎ (bytes_eq node name ≡ false) → cond (bytes_eq node name) [] (conv_on name ts) ≡ cond (bytes_eq node name) [] (conv_on name (t ∷ ts))
  gone its (inl is) = cond-true _ _ _ is ∙ sym (cond-true _ _ _ is)
  gone its (inr is) = cond-false _ _ _ is ∙ (sym (on_other name t ts (ap (λ (x : List ℕ). bytes_eq x name) ((bytes_decides t.node node).0 its) ∙ is)) ∙ sym (cond-false _ _ _ is))

  apart : bytes_eq t.node node ≡ false → bytes_eq t.node name ≡ true → bytes_eq node name ≡ false
  apart its is = ap (λ (x : List ℕ). bytes_eq node x) (sym ((bytes_decides t.node name).0 is)) ∙ turned (bytes_eq node t.node) refl where
    turned : (b : Bool) → bytes_eq node t.node ≡ b → bytes_eq node t.node ≡ false
    turned true e = absurd (false≢true (sym its ∙ names_turn node t.node e))
    turned false e = e

  kept : bytes_eq t.node node ≡ false → conv_on name (off node ts) ≡ cond (bytes_eq node name) [] (conv_on name ts) → (bytes_eq t.node name ≡ true) ⊎ (bytes_eq t.node name ≡ false) → conv_on name (t ∷ off node ts) ≡ cond (bytes_eq node name) [] (conv_on name (t ∷ ts))
  kept its rest (inl is) = on_kept name t (off node ts) is
      ∙ (ap (λ (os : List (List ℕ × ℕ)). (t.conv, t.fid) ∷ os) (rest ∙ cond-false _ _ _ (apart its is))
      ∙ (sym (on_kept name t ts is) ∙ sym (cond-false _ _ _ (apart its is))))
  kept its rest (inr is) = on_other name t (off node ts) is ∙ (rest ∙ ap (cond (bytes_eq node name) []) (sym (on_other name t ts is)))
