use Rattle.std.proofs.Common.{filter, ℕ, eqb, not, ap, sym, rules, ◌∙◌, subst, ◌≡◌, false, List}
use Rattle.std.specs.Map.{lookup}
use Rattle.std.specs.BTreeMap.{is_at}
use Rattle.std.proofs.lemmas.Map.Made.{filter_same_pairs}
use Rattle.std.proofs.lemmas.Map.Entries.{lookup-filter-keys}
use Rattle.agent_talks.specs.Listed.{AreAlone, Rises, conv_in, fid_cmp, IsListed}
use Rattle.agent_talks.proofs.PlaceLemmas.{alone_left, first_same, index_apart, rises_left}
use Rattle.agent_talks.proofs.speakers.Speakers.drop_connection.Goals as goal

pub invariant_of-self : goal.invariant_of-self
invariant_of-self c =
    let left = filter_same_pairs _ (λ e. not (eqb e.0.0 c.args.conn)) _ (λ k v b w f t. search rules) c.self.inside.by_fid.entries c.retain.new.self.entries c.retain.ensures.filtered in
    subst (λ xs. IsListed c.retain.new.self xs) (sym (c.keep_others.ensures ∙ ap (filter (λ s. not (eqb s.conn c.args.conn))) c.self.view_is)) (record {
      rises = rises_left (λ s. not (eqb s.conn c.args.conn)) c.args.self.now (subst Rises c.self.view_is c.self.invariant.rises);
      alone = alone_left (λ s. not (eqb s.conn c.args.conn)) c.args.self.now (subst AreAlone c.self.view_is c.self.invariant.alone);
      found = λ conn fid. index_apart c.args.self.now c.args.conn conn fid _ _
          (ap (λ es. lookup (is_at (fid_cmp (conn, fid))) es) left
          ∙ lookup-filter-keys (is_at (fid_cmp (conn, fid))) (λ (q : ℕ × ℕ). not (eqb q.0 c.args.conn)) (not (eqb conn c.args.conn)) (λ k is. ap (λ (n : ℕ). not (eqb n c.args.conn)) (sym (first_same conn fid k is))) c.self.inside.by_fid.entries)
          (c.self.invariant.found conn fid ∙ ap (conv_in conn fid) c.self.view_is);
    })
