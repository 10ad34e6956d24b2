-- Tables of entries of two and of three words, one entry more. Assumes nothing.
use Prim.Native.Nat.{ℕ, zero, suc, ◌+◌, ◌*◌, ◌<◌, ◌≤◌}
use mathlib.Core.Path.{◌≡◌, refl, sym, ◌∙◌, ap}
use mathlib.Core.List.{List, [], ◌∷◌, ◌++◌, map, flat_map, append_assoc}
use mathlib.Core.Bool.{Bool, true, false}
use native.Mathlib.Numerals.{add-one}
use native.Mathlib.Nat.{add-zero, zero-add}
use native.Mathlib.Omega.{arith}
use mir.Val.{bool_byte}
use lib.ListN.{length, get_or, set, length-append, length-set}
use lib.Seq.{sets}
use Rattle.layout.specs.Layout.{edges_at, nodes_at}
use Rattle.laws.proofs.Sets.{sets_snoc}
use Rattle.laws.proofs.Runs.{map_snoc, flat_snoc}
use Rattle.pywr.specs.Network.{Node}
use Rattle.pywr.specs.ColEdgeMap.{MappedEdge}
use Rattle.pywr.specs.Build.{node_shape}
use Rattle.pywr.specs.Written.{flag_word, node_words, edge_words}
use Rattle.fields.specs.Records.{records_at, records_end}
use Rattle.fields.proofs.RecordLaws.{records_more, records_length, end_fixed}
use Rattle.network_node.specs.Node.{node_at}
use Rattle.network_laws.specs.NetworkAt.{node_records}
use Rattle.build_shape.specs.ShapeTables.{edge_entry, edges_from, edge_entries}

-- ---- words put one behind the other

module _ (l xs : List ℕ) (at : ℕ) where
  one_more : (k a : ℕ) → length xs ≡ k → set (sets l at xs) (at + k) a ≡ sets l at (xs ++ (a ∷ []))
  one_more k a e = ap (λ (j : ℕ). set (sets l at xs) (at + j) a) (sym e) ∙ sym (sets_snoc l at xs a)

two_more : (l xs : List ℕ) (at k a b : ℕ) → length xs ≡ k → set (set (sets l at xs) (at + k) a) (at + k + 1) b ≡ sets l at (xs ++ (a ∷ b ∷ []))
two_more l xs at k a b e =
    let n : length (xs ++ (a ∷ [])) ≡ k + 1 = length-append xs (a ∷ []) ∙ ap (λ (j : ℕ). j + 1) e in
    let p : at + k + 1 ≡ at + (k + 1) = omega arith in
    rw (one_more l xs at k a e, p) (one_more l (xs ++ (a ∷ [])) at (k + 1) b n ∙ ap (sets l at) (append_assoc xs (a ∷ []) (b ∷ [])))

three_more : (l xs : List ℕ) (at k a b d : ℕ) → length xs ≡ k → set (set (set (sets l at xs) (at + k) a) (at + k + 1) b) (at + k + 2) d ≡ sets l at (xs ++ (a ∷ b ∷ d ∷ []))
three_more l xs at k a b d e =
    let n : length (xs ++ (a ∷ b ∷ [])) ≡ k + 2 = length-append xs (a ∷ b ∷ []) ∙ ap (λ (j : ℕ). j + 2) e in
    let p : at + k + 2 ≡ at + (k + 2) = omega arith in
    rw (two_more l xs at k a b e, p) (one_more l (xs ++ (a ∷ b ∷ [])) at (k + 2) d n ∙ ap (sets l at) (append_assoc xs (a ∷ b ∷ []) (d ∷ [])))

-- ---- nodes

unfoldable pub node_table : List ℕ → ℕ → List ℕ
node_table file i = flat_map node_words (map node_shape (node_records file i))

node_snoc : (file : List ℕ) (i : ℕ) → node_table file (i + 1) ≡ node_table file i ++ node_words (node_shape (node_at file (20 * i)))
unfolding node_table flat_map
node_snoc file i =
    let e : records_end (λ at. at + 20) i 0 ≡ 20 * i = end_fixed 20 i 0 ∙ zero-add (20 * i) in
    rw (
      records_more (node_at file) (λ at. at + 20) i 0,
      e,
      map_snoc node_shape (node_records file i) (node_at file (20 * i)),
      flat_snoc node_words
          (map node_shape (node_records file i)) (node_shape (node_at file (20 * i))),
    )

node_long : (file : List ℕ) (i : ℕ) → length (node_table file i) ≡ 2 * i
unfolding node_table node_words flat_map
node_long file i = go (node_records file i) ∙ ap (λ (k : ℕ). 2 * k) (records_length (node_at file) (λ at. at + 20) i 0)
  where
    go : (xs : List Node) → length (flat_map node_words (map node_shape xs)) ≡ 2 * length xs
    go [] = refl
    go (x ∷ xs) = let ih = go xs in omega (arith, length-append (node_words (node_shape x)) (flat_map node_words (map node_shape xs)))

pub record NodesWritten (file shape₀ : List ℕ) (nodes : ℕ) (shape : List ℕ) (i : ℕ) : Type 0 where
  pub few : i ≤ nodes
  pub run : shape ≡ sets shape₀ nodes_at (node_table file i)
  pub long : length shape ≡ length shape₀

pub nodes_none : (file shape : List ℕ) (nodes : ℕ) → NodesWritten file shape nodes shape 0
unfolding node_table records_at flat_map
nodes_none file shape nodes = record { few = omega arith; run = refl; long = refl }

pub nodes_more : (file shape₀ : List ℕ) (nodes : ℕ) (shape : List ℕ) (i k f : ℕ) → i < nodes → k ≡ (node_at file (20 * i)).kind → f ≡ flag_word (node_at file (20 * i)).constant
    → NodesWritten file shape₀ nodes shape i → NodesWritten file shape₀ nodes (set (set shape (nodes_at + 2 * i) k) (nodes_at + 2 * i + 1) f) (i + 1)
unfolding node_words node_shape
nodes_more file shape₀ nodes shape i k f h ek ef w =
    record {
      few = omega arith;
      run = rw (w.run, ek, ef) (two_more shape₀ (node_table file i) nodes_at (2 * i) _ _ (node_long file i) ∙ ap (sets shape₀ nodes_at) (sym (node_snoc file i)));
      long = length-set (set shape (nodes_at + 2 * i) k) (nodes_at + 2 * i + 1) f ∙ length-set shape (nodes_at + 2 * i) k ∙ w.long;
    }

pub nodes_all : (file shape₀ : List ℕ) (nodes : ℕ) (shape : List ℕ) (i : ℕ) → nodes ≤ i → NodesWritten file shape₀ nodes shape i
    → shape ≡ sets shape₀ nodes_at (flat_map node_words (map node_shape (node_records file nodes)))
unfolding node_table flat_map
nodes_all file shape₀ nodes shape i h w = let e : i ≡ nodes = omega (arith, w.few) in w.run ∙ ap (λ (k : ℕ). sets shape₀ nodes_at (node_table file k)) e

-- a flag's word is that of the bool
pub flag_is : (b : Bool) → bool_byte b ≡ flag_word b
unfolding flag_word
flag_is true = refl
flag_is false = refl

pub nodes_length : (file : List ℕ) (n : ℕ) → length (flat_map node_words (map node_shape (node_records file n))) ≡ 2 * n
unfolding node_table
nodes_length file n = node_long file n

-- ---- edges

module _ (file table : List ℕ) (nodes : ℕ) where
  unfoldable pub edge_table : ℕ → List ℕ
  edge_table i = flat_map edge_words (edge_entries file table nodes i)

  from_snoc : (i e : ℕ) → edges_from file table nodes (suc i) e ≡ edges_from file table nodes i e ++ (edge_entry file table nodes (e + i) ∷ [])
  unfolding edges_from
  from_snoc zero e = ap (λ (k : ℕ). edge_entry file table nodes k ∷ []) (sym (add-zero e))
  from_snoc (suc i) e =
      let q : e + 1 + i ≡ e + suc i = omega arith in
      ap (λ (l : List MappedEdge). edge_entry file table nodes e ∷ l) (from_snoc i (e + 1) ∙ ap (λ (k : ℕ). edges_from file table nodes i (e + 1) ++ (edge_entry file table nodes k ∷ [])) q)

  edge_snoc : (i : ℕ) → edge_table (i + 1) ≡ edge_table i ++ edge_words (edge_entry file table nodes i)
  unfolding edge_table
  edge_snoc i =
      rw (add-one i, from_snoc i 0, zero-add i) (flat_snoc edge_words (edges_from file table nodes i 0) (edge_entry file table nodes i))

  edge_long : (i : ℕ) → length (edge_table i) ≡ 3 * i
  unfolding edge_table edges_from edge_words flat_map
  edge_long i = go i 0
    where
      go : (i e : ℕ) → length (flat_map edge_words (edges_from file table nodes i e)) ≡ 3 * i
      go zero e = refl
      go (suc i) e = let ih = go i (e + 1) in omega (arith, length-append (edge_words (edge_entry file table nodes e)) (flat_map edge_words (edges_from file table nodes i (e + 1))))

  pub record EdgesWritten (shape₀ : List ℕ) (edges : ℕ) (shape : List ℕ) (i : ℕ) : Type 0 where
    pub few : i ≤ edges
    pub run : shape ≡ sets shape₀ edges_at (edge_table i)
    pub long : length shape ≡ length shape₀

  pub edges_none : (shape : List ℕ) (edges : ℕ) → EdgesWritten shape edges shape 0
  unfolding edge_table edges_from flat_map
  edges_none shape edges = record { few = omega arith; run = refl; long = refl }

  pub edges_more : (shape₀ : List ℕ) (edges : ℕ) (shape : List ℕ) (i a b d : ℕ) → i < edges
      → a ≡ (edge_entry file table nodes i).from → b ≡ (edge_entry file table nodes i).to → d ≡ (edge_entry file table nodes i).column
      → EdgesWritten shape₀ edges shape i → EdgesWritten shape₀ edges (set (set (set shape (edges_at + 3 * i) a) (edges_at + 3 * i + 1) b) (edges_at + 3 * i + 2) d) (i + 1)
  unfolding edge_words
  edges_more shape₀ edges shape i a b d h ea eb ed w =
      record {
        few = omega arith;
        run = rw (w.run, ea, eb, ed) (three_more shape₀ (edge_table i) edges_at (3 * i) _ _ _ (edge_long i) ∙ ap (sets shape₀ edges_at) (sym (edge_snoc i)));
        long =
            length-set (set (set shape (edges_at + 3 * i) a) (edges_at + 3 * i + 1) b) (edges_at + 3 * i + 2) d
            ∙ length-set (set shape (edges_at + 3 * i) a) (edges_at + 3 * i + 1) b
            ∙ length-set shape (edges_at + 3 * i) a
            ∙ w.long;
      }

  pub edges_all : (shape₀ : List ℕ) (edges : ℕ) (shape : List ℕ) (i : ℕ) → edges ≤ i → EdgesWritten shape₀ edges shape i
      → shape ≡ sets shape₀ edges_at (flat_map edge_words (edge_entries file table nodes edges))
  unfolding edge_table
  edges_all shape₀ edges shape i h w = let e : i ≡ edges = omega (arith, w.few) in w.run ∙ ap (λ (k : ℕ). sets shape₀ edges_at (edge_table k)) e

  pub edges_length : (n : ℕ) → length (flat_map edge_words (edge_entries file table nodes n)) ≡ 3 * n
  unfolding edge_table
  edges_length n = edge_long n

  -- entry i of the edges
  pub edge_get : (count e i : ℕ) (d : MappedEdge) → i < count → get_or (edges_from file table nodes count e) i d ≡ edge_entry file table nodes (e + i)
  unfolding edges_from
  edge_get zero e i d h = absurd (omega arith)
  edge_get (suc count) e zero d h = ap (edge_entry file table nodes) (sym (add-zero e))
  edge_get (suc count) e (suc i) d h = let q : e + 1 + i ≡ e + suc i = omega arith in edge_get count (e + 1) i d (omega arith) ∙ ap (edge_entry file table nodes) q

  pub edges_many : (count e : ℕ) → length (edges_from file table nodes count e) ≡ count
  unfolding edges_from
  edges_many zero e = refl
  edges_many (suc count) e = ap suc (edges_many count (e + 1))
