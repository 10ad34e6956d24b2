-- The edge after an edge is the one that shares with it, and no other edge does. Assumes nothing.
use mathlib.Core.Path.{◌≡◌, refl, sym, ap, ◌∙◌, subst}
use Prim.Native.Nat.{ℕ, zero, suc, ◌<◌}
use native.Mathlib.Nat.{zero-add}
use native.Mathlib.Omega.{arith}
use mathlib.Core.Bool.{Bool, true, false, cond}
use mathlib.Core.List.{List, [], ◌∷◌, Memᴰ}
use mathlib.Core.Option.{Option, none, some}
use lib.ListN.{length, get_or, get_elem?}
use lib.Dec.{eqb}
use Rattle.laws.proofs.Tests.{of_true, cond_yes}
use Rattle.pywr.specs.Network.{link, Edge, Network, kind_of, source, target, incoming, outgoing}
use Rattle.pywr.specs.ColEdgeMap.{single}
use Rattle.pywr.specs.FlowOrder.{no_edge, edge_numbered, next_edge}
use Rattle.pywr.proofs.LinkLaws.{prev_of, below_length, ends_sound, ends_complete, Single, single_is, Shares, shares, exit_is, shares_back}
use Rattle.pywr.proofs.ListLaws.{not_found, same_some}

found_edge : (es : List Edge) (e : ℕ) → e < length es → get_elem? es e ≡ some (get_or es e no_edge)
found_edge [] e h = absurd (omega arith)
found_edge (x ∷ xs) zero h = refl
found_edge (x ∷ xs) (suc e) h = found_edge xs e (omega arith)

module _ (net : Network) where
  abbrev pub next_of : ℕ → Option ℕ
  next_of e = next_edge net (edge_numbered net e)

  pub next_prev : (e x : ℕ) → e < length net.edges → next_of e ≡ some x → prev_of net x ≡ some e
  unfolding next_edge incoming outgoing
  next_prev e x h q = go (eqb (kind_of net.nodes n) link) refl q
    where
      n : ℕ
      n = (edge_numbered net e).to

      go : (b : Bool) → eqb (kind_of net.nodes n) link ≡ b → cond b (single (outgoing net n) (incoming net n)) none ≡ some x → prev_of net x ≡ some e
      go false k r = not_found x r
      go true k r =
          let s : Single (outgoing net n) (incoming net n) x = single_is (outgoing net n) (incoming net n) x r in
          let here : Memᴰ e (incoming net n) =
          mathlib.Core.List.Memᴰ.cast (sym (zero-add e)) (ends_complete target n 0 e net.edges (edge_numbered net e) (found_edge net.edges e h) refl) in
          let same : e ≡ s.exit = mathlib.Core.List.Memᴰ.eq_of_singleton (subst (λ (l : List ℕ). Memᴰ e l) s.out_is here) in
          let t : Single (incoming net n) (outgoing net n) e =
          record { exit = x; into_is = s.out_is ∙ ap (λ (y : ℕ). y ∷ []) (sym same); out_is = s.into_is } in
          let w = ends_sound source n 0 x net.edges (subst (λ (l : List ℕ). Memᴰ x l) (sym s.into_is) (mathlib.Core.List.Memᴰ.head refl)) in
          shares_back net n x e w.edge (ap (get_elem? net.edges) (w.where_at ∙ zero-add w.at) ∙ w.found) w.ends
          (of_true (eqb (kind_of net.nodes n) link) k) t

  pub prev_next : (e x : ℕ) → prev_of net x ≡ some e → next_of e ≡ some x
  unfolding next_edge incoming outgoing single
  prev_next e x q =
      let s : Shares net x e = shares net x e q in
      let n : ℕ = s.edge.from in
      let w = ends_sound target n 0 e net.edges (subst (λ (l : List ℕ). Memᴰ e l) (sym s.alone.into_is) (mathlib.Core.List.Memᴰ.head refl)) in
      let f : get_elem? net.edges e ≡ some w.edge = ap (get_elem? net.edges) (w.where_at ∙ zero-add w.at) ∙ w.found in
      let g : get_elem? net.edges e ≡ some (edge_numbered net e) = found_edge net.edges e (below_length net.edges e w.edge f) in
      let same : w.edge ≡ edge_numbered net e = same_some w.edge (edge_numbered net e) (sym f ∙ g) in
      let at : (edge_numbered net e).to ≡ n = ap target (sym same) ∙ w.ends in
      ap (λ (k : ℕ). cond (eqb (kind_of net.nodes k) link) (single (outgoing net k) (incoming net k)) none) at
      ∙ cond_yes (eqb (kind_of net.nodes n) link) _ _ s.is_link
      ∙ rw (s.alone.out_is, s.alone.into_is) (ap {B = Option ℕ} some (sym (exit_is net x e s)))
