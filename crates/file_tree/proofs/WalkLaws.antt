-- Where names lead.
use Rattle.std.proofs.Common.{◌≡◌, ◌≤◌, ◌<◌, ℕ, List, [], ◌∷◌, ◌++◌, length, Option, Some, None, true, false, refl, sym, ap, ◌∙◌, arith, cond, eqb, Bool}
use Rattle.std.specs.Prelude.{◌≢◌, codes, option_and_then, bytes_eq}
use Rattle.file_tree.specs.declared.tree.Node.{Node}
use Rattle.file_tree.specs.declared.tree.Node.TheVariants.{Root, Factotum, Rpc, Ctl, Confirm, Needkey, Proto, Log}
use Rattle.file_tree.specs.declared.tree.FidState.{FidState}
use Rattle.file_tree.specs.Tree.{file, is_directory, lead_to, parent, step, visited}
use Rattle.file_tree.specs.Calls.{node_of, walked, moved}

pub found_by_name : (node : Node) → node ≢ Root → step (parent node) (file node).name ≡ Some node
unfolding step
found_by_name Root not_root = absurd (not_root refl)
found_by_name Factotum not_root = refl
found_by_name Rpc not_root = refl
found_by_name Ctl not_root = refl
found_by_name Confirm not_root = refl
found_by_name Needkey not_root = refl
found_by_name Proto not_root = refl
found_by_name Log not_root = refl

pub leads_up : (node : Node) → is_directory node ≡ true → step node (codes "..") ≡ Some (parent node)
unfolding step
leads_up Root e = refl
leads_up Factotum e = refl
leads_up Rpc e = absurd cc
leads_up Ctl e = absurd cc
leads_up Confirm e = absurd cc
leads_up Needkey e = absurd cc
leads_up Proto e = absurd cc
leads_up Log e = absurd cc

either : (b : Bool) (x : Option Node) → x ≡ None → cond b x x ≡ None
either true x e = e
either false x e = e

pub nothing_below : (node : Node) (name : List ℕ) → is_directory node ≡ false → step node name ≡ None
unfolding step
nothing_below Root name e = absurd cc
nothing_below Factotum name e = absurd cc
nothing_below Rpc name e = either (bytes_eq name (codes "..")) None refl
nothing_below Ctl name e = either (bytes_eq name (codes "..")) None refl
nothing_below Confirm name e = either (bytes_eq name (codes "..")) None refl
nothing_below Needkey name e = either (bytes_eq name (codes "..")) None refl
nothing_below Proto name e = either (bytes_eq name (codes "..")) None refl
nothing_below Log name e = either (bytes_eq name (codes "..")) None refl

-- the file of a path
abbrev at_path : ℕ → Node
at_path path = cond (eqb path 0) Root (cond (eqb path 1) Factotum (cond (eqb path 2) Rpc (cond (eqb path 3) Ctl (cond (eqb path 4) Confirm (cond (eqb path 5) Needkey (cond (eqb path 6) Proto Log))))))

at_its_path : (node : Node) → at_path (file node).path ≡ node
at_its_path Root = refl
at_its_path Factotum = refl
at_its_path Rpc = refl
at_its_path Ctl = refl
at_its_path Confirm = refl
at_its_path Needkey = refl
at_its_path Proto = refl
at_its_path Log = refl

pub one_path : (one other : Node) → (file one).path ≡ (file other).path → one ≡ other
one_path one other e = sym (at_its_path one) ∙ ap at_path e ∙ at_its_path other

pub at_most : (node : Node) (names : List (List ℕ)) → length (visited node names) ≤ length names
at_most node [] = omega arith
at_most node (name ∷ names) =
    elim (step node name) as (λ s. length (elim s as (λ x. List Node) [ Some next ↦ next ∷ visited next (names) | None ↦ [] ]) ≤ length (name ∷ names)) [
      | Some next ↦ omega (arith, at_most next names)
      | None ↦ omega arith
    ]

pub fewer_from_none : (node : Node) (names : List (List ℕ)) → lead_to node names ≡ None → length (visited node names) < length names
fewer_from_none node [] e = absurd cc
fewer_from_none node (name ∷ names) e =
    (elim (step node name) as (λ s. (elim s as (λ x. Option Node) [ Some next ↦ lead_to next (names) | None ↦ None ]) ≡ None → length (elim s as (λ x. List Node) [ Some next ↦ next ∷ visited next (names) | None ↦ [] ]) < length (name ∷ names)) [
      | Some next ↦ λ none. omega (arith, fewer_from_none next names none)
      | None ↦ λ none. omega arith
    ]) e

pub none_from_fewer : (node : Node) (names : List (List ℕ)) → length (visited node names) < length names → lead_to node names ≡ None
none_from_fewer node [] h = absurd (omega arith)
none_from_fewer node (name ∷ names) h =
    (elim (step node name) as (λ s. length (elim s as (λ x. List Node) [ Some next ↦ next ∷ visited next (names) | None ↦ [] ]) < length (name ∷ names) → (elim s as (λ x. Option Node) [ Some next ↦ lead_to next (names) | None ↦ None ]) ≡ None) [
      | Some next ↦ λ few. none_from_fewer next names (omega arith)
      | None ↦ λ few. refl
    ]) h

pub stays : (fid newfid : Option FidState) (names : List (List ℕ)) → length (visited (node_of fid) names) < length names → walked fid newfid names ≡ newfid
stays fid newfid names h = ap (moved newfid) (none_from_fewer (node_of fid) names h)

pub in_parts : (node : Node) (names others : List (List ℕ)) → lead_to node (names ++ others) ≡ option_and_then (λ next. lead_to next others) (lead_to node names)
in_parts node [] others = refl
in_parts node (name ∷ names) others =
    elim (step node name) as (λ s. (elim s as (λ x. Option Node) [ Some next ↦ lead_to next (names ++ others) | None ↦ None ]) ≡ option_and_then (λ next. lead_to next others) (elim s as (λ x. Option Node) [ Some next ↦ lead_to next (names) | None ↦ None ])) [
      | Some next ↦ in_parts next names others
      | None ↦ refl
    ]

abbrev EndsWith : List Node → Node → Type 0
EndsWith nodes end = (front : List Node) × (nodes ≡ front ++ end ∷ [])

ends_later : (next : Node) (nodes : List Node) (end : Node) → EndsWith nodes end → EndsWith (next ∷ nodes) end
ends_later next nodes end h = (next ∷ h.0, ap (λ (ns : List Node). next ∷ ns) h.1)

pub ends_there : (node end : Node) (names : List (List ℕ)) (name : List ℕ) → lead_to node (names ++ name ∷ []) ≡ Some end → EndsWith (visited node (names ++ name ∷ [])) end
ends_there node end [] name e =
    (elim (step node name) as (λ s. (elim s as (λ x. Option Node) [ Some next ↦ lead_to next ([]) | None ↦ None ]) ≡ Some end → EndsWith (elim s as (λ x. List Node) [ Some next ↦ next ∷ visited next ([]) | None ↦ [] ]) end) [
      | Some next ↦ λ there. let same : next ≡ end = cc in ([], ap (λ (n : Node). n ∷ []) same)
      | None ↦ λ there. absurd cc
    ]) e
ends_there node end (first ∷ names) name e =
    (elim (step node first) as (λ s. (elim s as (λ x. Option Node) [ Some next ↦ lead_to next (names ++ name ∷ []) | None ↦ None ]) ≡ Some end → EndsWith (elim s as (λ x. List Node) [ Some next ↦ next ∷ visited next (names ++ name ∷ []) | None ↦ [] ]) end) [
      | Some next ↦ λ there. ends_later next (visited next (names ++ name ∷ [])) end (ends_there next end names name there)
      | None ↦ λ there. absurd cc
    ]) e
