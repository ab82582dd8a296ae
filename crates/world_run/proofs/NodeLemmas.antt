-- A node among others.
use Rattle.std.proofs.Common.{◌≡◌, ℕ, List, [], ◌∷◌, ◌++◌, map, filter, Bool, true, false, cond, not, Option, Some, None, refl, sym, ap, subst, ◌∙◌, inl, inr}
use Rattle.std.specs.Prelude.{is_some, option_copied}
use Rattle.std.specs.Borrow.{Bor}
use Rattle.std.specs.Str.{bytes_eq}
use Rattle.std.specs.Cmp.Lexicographic.{bytes_decides}
use Rattle.std.proofs.lemmas.Bool.{cases_Bool, cond-true, cond-false, false≢true}
use Rattle.agent_history.specs.Histories.{History}
use Rattle.agent_turns.specs.Agents.{StandsFor}
use Rattle.agent_turns.specs.declared.turns.Turned.{Turned}
use Rattle.agent_turns.specs.Turning.{Turns}
use Rattle.world_history.specs.Acts.{least_fid}
use Rattle.world_history.specs.Driving.{new_node, refuses_open}
use Rattle.world_history.specs.Turns.{Turn, after}
use Rattle.world_run.specs.declared.node.Node.{Node}
use Rattle.world_run.specs.declared.nodes.Nodes.{Nodes}
use Rattle.world_run.specs.Fids.{named}
use Rattle.world_run.specs.Nodes.{IsNode, NodeIs, NodesAre, OpensSo, TurnsSo, View, closed, done_on, made, next_fid, node_at, opened, restarted}
use Rattle.world_run.specs.Opening.{OpensOne, its_fid}
use Rattle.world_run.proofs.FidLemmas.{fids_named, named_left}

-- ---- what stands under a name

known_there : (is : Bool) (h : History) (held : List (List ℕ × ℕ)) (o : Option Node) → NodeIs is h held o → is_some o ≡ is
known_there is h held None n = sym n.free
known_there is h held (Some node) n = sym n.made

pub is_known : (v : View) (nodes : Nodes) (name : List ℕ) → NodesAre v nodes → is_some (node_at nodes name) ≡ v.is name
is_known v nodes name h = known_there (v.is name) (v.history name) (v.held name) (node_at nodes name) (h name)

free_there : (is : Bool) (h : History) (held : List (List ℕ × ℕ)) (o : Option Node) → is ≡ false → NodeIs is h held o → held ≡ []
free_there is h held None new n = n.closed
free_there is h held (Some node) new n = absurd (false≢true (sym new ∙ n.made))

node_there : (v : View) (nodes : Nodes) (name : List ℕ) (node : Node) → node_at nodes name ≡ Some node → NodesAre v nodes → IsNode (v.is name) (v.history name) (v.held name) node
node_there v nodes name node found h = subst (λ (o : Option Node). NodeIs (v.is name) (v.history name) (v.held name) o) found (h name)

pub lent_or_not : (o : Option (Bor Node)) → is_some o ≡ is_some (option_copied o)
lent_or_not None = refl
lent_or_not (Some node) = refl

-- one changed, and the others are what they were
changed : (v w : View) (name : List ℕ) (now : Node) (old new : Nodes)
    → ((other : List ℕ) → node_at new other ≡ cond (bytes_eq name other) (Some now) (node_at old other))
    → IsNode (w.is name) (w.history name) (w.held name) now
    → ((other : List ℕ) → bytes_eq name other ≡ false → w.is other ≡ v.is other)
    → ((other : List ℕ) → bytes_eq name other ≡ false → w.history other ≡ v.history other)
    → ((other : List ℕ) → bytes_eq name other ≡ false → w.held other ≡ v.held other)
    → NodesAre v old → NodesAre w new
changed v w name now old new others here same_is same_history same_held h = λ other. elim (cases_Bool (bytes_eq name other)) [
  | inl is ↦ subst (λ (o : Option Node). NodeIs (w.is other) (w.history other) (w.held other) o) (sym (others other ∙ cond-true _ _ _ is))
      (subst (λ (x : List ℕ). IsNode (w.is x) (w.history x) (w.held x) now) ((bytes_decides name other).0 is) here)
  | inr is ↦ subst (λ (o : Option Node). NodeIs (w.is other) (w.history other) (w.held other) o) (sym (others other ∙ cond-false _ _ _ is))
      (subst (λ (b : Bool). NodeIs b (w.history other) (w.held other) (node_at old other)) (sym (same_is other is))
      (subst (λ (k : History). NodeIs (v.is other) k (w.held other) (node_at old other)) (sym (same_history other is))
      (subst (λ (os : List (List ℕ × ℕ)). NodeIs (v.is other) (v.history other) os (node_at old other)) (sym (same_held other is)) (h other))))
]

its : (name : List ℕ) → bytes_eq name name ≡ true
its name = (bytes_decides name name).1 refl

-- ---- one more

pub made_so : (v : View) (name : List ℕ) (node : Node) (old new : Nodes)
    → ((other : List ℕ) → node_at new other ≡ cond (bytes_eq name other) (Some node) (node_at old other))
    → v.is name ≡ false → StandsFor new_node node.agent → node.held.items ≡ [] → NodesAre v old → NodesAre (made name v) new
made_so v name node old new others free stands none h = changed v (made name v) name node old new others
    (record {
      made = cond-true _ _ _ (its name);
      stands = subst (λ (k : History). StandsFor k node.agent) (sym (cond-true _ _ _ (its name))) stands;
      named = ap named none ∙ sym (free_there (v.is name) (v.history name) (v.held name) (node_at old name) free (h name));
    })
    (λ other is. cond-false _ _ _ is) (λ other is. cond-false _ _ _ is) (λ other is. refl) h

-- ---- another agent takes the place of one's

pub restarted_so : (v : View) (name : List ℕ) (node now : Node) (old new : Nodes)
    → node_at old name ≡ Some node → ((other : List ℕ) → node_at new other ≡ cond (bytes_eq name other) (Some now) (node_at old other))
    → StandsFor new_node now.agent → now.held.items ≡ [] → NodesAre v old → NodesAre (restarted name v) new
restarted_so v name node now old new found others stands none h =
    let n = node_there v old name node found h in
    changed v (restarted name v) name now old new others
    (record {
      made = n.made;
      stands = subst (λ (k : History). StandsFor k now.agent) (sym (cond-true _ _ _ (its name))) stands;
      named = ap named none ∙ sym (cond-true _ _ _ (its name));
    })
    (λ other is. refl) (λ other is. cond-false _ _ _ is) (λ other is. cond-false _ _ _ is) h

-- ---- something is done to one

pub turned_so : (v : View) (name : List ℕ) (number : ℕ) (turn : Turn) (turned : Turned) (node now : Node) (old new : Nodes)
    → node_at old name ≡ Some node → ((other : List ℕ) → node_at new other ≡ cond (bytes_eq name other) (Some now) (node_at old other))
    → now.held ≡ node.held → ((k : History) → StandsFor k node.agent → Turns number turn k now.agent turned)
    → NodesAre v old → TurnsSo number name turn v (Some turned) new
turned_so v name number turn turned node now old new found others same turns h =
    let n = node_there v old name node found h in
    let t = turns (v.history name) n.stands in
    record {
      nodes = changed v (done_on name turn v) name now old new others
          (record {
            made = n.made;
            stands = subst (λ (k : History). StandsFor k now.agent) (sym (cond-true _ _ _ (its name))) t.stands;
            named = ap (λ held. named held.items) same ∙ n.named;
          })
          (λ other is. refl) (λ other is. cond-false _ _ _ is) (λ other is. refl) h;
      steps = t.steps;
      call = t.call;
    }

pub nobody_there : (v : View) (name : List ℕ) (nodes : Nodes) → node_at nodes name ≡ None → v.is name ≡ true → NodesAre v nodes → ⊥
nobody_there v name nodes none is h = false≢true (ap is_some (sym none) ∙ (is_known v nodes name h ∙ is))

-- ---- one opens a conversation

opened_known : (v : View) (name conv : List ℕ) (node now : Node) (fid : Option ℕ) (f : ℕ) (old new : Nodes)
    → its_fid node ≡ f → next_fid v name ≡ f
    → ((other : List ℕ) → node_at new other ≡ cond (bytes_eq name other) (Some now) (node_at old other))
    → IsNode (v.is name) (v.history name) (v.held name) node → OpensOne conv (v.history name) node fid now
    → NodesAre v old → OpensSo name conv v fid new
unfolding after
opened_known v name conv node now None f old new same its_own others n o h = ap (λ (x : ℕ). refuses_open x (v.history name)) (its_own ∙ sym same) ∙ o
opened_known v name conv node now (Some fid) f old new same its_own others n o h =
    let e : its_fid node ≡ next_fid v name = same ∙ sym its_own in
    record {
      least = o.least ∙ e;
      lets = ap (λ (x : ℕ). refuses_open x (v.history name)) (sym e) ∙ o.lets;
      nodes = subst (λ (x : ℕ). NodesAre (opened name conv x v) new) e
          (changed v (opened name conv (its_fid node) v) name now old new others
          (record {
            made = n.made;
            stands = subst (λ (k : History). StandsFor k now.agent) (sym (cond-true _ _ _ (its name))) o.stands;
            named = o.held ∙ (ap (λ (os : List (List ℕ × ℕ)). os ++ (conv, its_fid node) ∷ []) n.named ∙ sym (cond-true _ _ _ (its name)));
          })
          (λ other is. refl) (λ other is. cond-false _ _ _ is) (λ other is. cond-false _ _ _ is) h);
    }

pub opened_so : (v : View) (name conv : List ℕ) (node now : Node) (fid : Option ℕ) (old new : Nodes)
    → node_at old name ≡ Some node → ((other : List ℕ) → node_at new other ≡ cond (bytes_eq name other) (Some now) (node_at old other))
    → ((k : History) → StandsFor k node.agent → OpensOne conv k node fid now)
    → NodesAre v old → OpensSo name conv v fid new
opened_so v name conv node now fid old new found others opens h =
    let n = node_there v old name node found h in
    opened_known v name conv node now fid (its_fid node) old new refl
    (ap least_fid (ap (map (λ (o : List ℕ × ℕ). o.1)) (sym n.named) ∙ fids_named node.held.items)) others n (opens (v.history name) n.stands) h

-- ---- a conversation of one is closed

pub closed_so : (v : View) (name conv : List ℕ) (node now : Node) (old new : Nodes)
    → node_at old name ≡ Some node → ((other : List ℕ) → node_at new other ≡ cond (bytes_eq name other) (Some now) (node_at old other))
    → now.agent ≡ node.agent → now.held.items ≡ filter (λ one. not (bytes_eq one.conv conv)) node.held.items
    → NodesAre v old → NodesAre (closed name conv v) new
closed_so v name conv node now old new found others same left h =
    let n = node_there v old name node found h in
    changed v (closed name conv v) name now old new others
    (record {
      made = n.made;
      stands = subst (λ agent. StandsFor (v.history name) agent) (sym same) n.stands;
      named = ap named left ∙ (named_left conv node.held.items ∙ (ap (filter (λ (o : List ℕ × ℕ). not (bytes_eq o.0 conv))) n.named ∙ sym (cond-true _ _ _ (its name))));
    })
    (λ other is. refl) (λ other is. refl) (λ other is. cond-false _ _ _ is) h

-- where there is no such node
closed_held : (is : Bool) (k : History) (held : List (List ℕ × ℕ)) (conv : List ℕ) (o : Option Node) → o ≡ None → NodeIs is k held o → filter (λ (p : List ℕ × ℕ). not (bytes_eq p.0 conv)) held ≡ held
closed_held is k held conv None none n = rw n.closed refl
closed_held is k held conv (Some node) none n = absurd cc

pub closed_none : (v : View) (name conv : List ℕ) (nodes : Nodes) → node_at nodes name ≡ None → NodesAre v nodes → NodesAre (closed name conv v) nodes
closed_none v name conv nodes none h = λ other. elim (cases_Bool (bytes_eq name other)) [
  | inl is ↦ subst (λ (os : List (List ℕ × ℕ)). NodeIs (v.is other) (v.history other) os (node_at nodes other))
      (sym (cond-true _ _ _ is ∙ closed_held (v.is other) (v.history other) (v.held other) conv (node_at nodes other) (subst (λ (x : List ℕ). node_at nodes x ≡ None) ((bytes_decides name other).0 is) none) (h other))) (h other)
  | inr is ↦ subst (λ (os : List (List ℕ × ℕ)). NodeIs (v.is other) (v.history other) os (node_at nodes other)) (sym (cond-false _ _ _ is)) (h other)
]
