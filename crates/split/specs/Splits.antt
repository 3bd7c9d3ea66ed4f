-- Document 01, "Planning": splits, and the one that is named, by a rule of loss. Of a pack's layers a split looks at mu and m alone. It is a
-- function of the layer's number x; only the layers below s count. Assumes nothing.
use Rattle.std.specs.Prelude.{ℕ, zero, suc, ◌+◌, ◌*◌, ◌-◌, ◌/◌, ◌≤◌, ◌<◌, min, ◌≡◌, ◌⊎◌, Bool, cond, ◌&&◌, List, [], ◌∷◌, ◌++◌, map, get_or, take, leb, ltb, eqb}
use Rattle.lists.specs.Lists.{any, up_to}
use Rattle.layers.specs.Answers.{no_head}
use Rattle.layers.specs.Layers.{sizes}
use Rattle.layers.specs.declared.LayerHead.{LayerHead}
use Rattle.placement.specs.declared.Rule.{Rule}
use Rattle.placement.specs.Figure.{loss, figure_of}

-- mu and m of layer x; 0 and 0 where there is no such layer
abbrev pub layer_at : List LayerHead → ℕ → LayerHead
layer_at layers x = get_or layers x no_head

-- refusal 9 unless some layer below s has a block
unfoldable pub has_block : List LayerHead → (s : ℕ) → Bool
has_block layers s = any (λ layer. ltb 0 layer.size) (take s layers)

-- one layer's part of a split: "a count c and whole copies d"
pub record Share : Type 0 where
  pub count : ℕ
  pub copies : ℕ

-- "its lambda is d × mu"
abbrev pub share_head : LayerHead → Share → LayerHead
share_head layer share = record { bound = share.copies * layer.bound; size = share.count }

-- the two numbers of each layer of the split's placement
abbrev pub split_heads : List LayerHead → (s : ℕ) → (ℕ → Share) → List LayerHead
split_heads layers s split = map (λ x. share_head (layer_at layers x) (split x)) (up_to s)

-- "A split gives each layer below s a count c and whole copies d, with c at most d × m and the counts summing to b"
pub record Split (layers : List LayerHead) (s b : ℕ) (split : ℕ → Share) : Type 0 where
  pub held : (x : ℕ) → x < s → (split x).count ≤ (split x).copies * (layer_at layers x).size
  pub sum : sizes (split_heads layers s split) ≡ b

-- "Its figure is b less the losses."
abbrev pub split_figure : Rule → List LayerHead → (s k b : ℕ) → (ℕ → Share) → ℕ
split_figure rule layers s k b split = figure_of rule s k b (split_heads layers s split)

-- "the largest c in layer s-1, then in layer s-2, down to 0": the counts come no later than the other's
abbrev pub Foremost : (s : ℕ) (split other : ℕ → Share) → Type 0
Foremost zero split other = Unit
Foremost (suc x) split other =
    ((other x).count < (split x).count) ⊎ (((other x).count ≡ (split x).count) × Foremost x split other)

-- "Of the splits with the highest figure the planner takes the one with the largest c in layer s-1, then in layer s-2,
-- down to 0, with the least d for each c."
pub record Named (rule : Rule) (layers : List LayerHead) (s k b : ℕ) (split : ℕ → Share) : Type 0 where
  pub is-split : Split layers s b split
  pub highest : (other : ℕ → Share) → Split layers s b other → split_figure rule layers s k b other ≤ split_figure rule layers s k b split
  pub foremost : (other : ℕ → Share) → Split layers s b other →
      split_figure rule layers s k b other ≡ split_figure rule layers s k b split → Foremost s split other
  pub least-copies : (x d : ℕ) → x < s → (split x).count ≤ d * (layer_at layers x).size → (split x).copies ≤ d

-- "the least d" for c records on m blocks; none for no records
abbrev pub copies_for : (c m : ℕ) → ℕ
copies_for c m = (c + (m - 1)) / m

abbrev pub share_of : LayerHead → (c : ℕ) → Share
share_of layer c = record { count = c; copies = copies_for c layer.size }

-- the split with these counts, "with the least d for each c"
abbrev pub counts_split : List LayerHead → (counts : List ℕ) → ℕ → Share
counts_split layers counts x = share_of (layer_at layers x) (get_or counts x 0)

-- more than the loss of any split of at most 4,096 records: it stands for records in a layer that has no block
abbrev pub no_split : ℕ
no_split = 8_192

-- what c records in layer x lose, with the least copies
unfoldable pub loss_of : Rule → List LayerHead → (s k x c : ℕ) → ℕ
loss_of rule layers s k x c =
    let layer = layer_at layers x in
    cond (eqb layer.size 0 && ltb 0 c) no_split (loss rule s k x (share_head layer (share_of layer c)))

-- the least of f 0, .., f top
unfoldable pub least : (ℕ → ℕ) → (top : ℕ) → ℕ
least f zero = f zero
least f (suc c) = min (f (suc c)) (least f c)

-- the largest c up to top at which f is least
unfoldable pub last_least : (ℕ → ℕ) → (top : ℕ) → ℕ
last_least f zero = zero
last_least f (suc c) = cond (leb (f (suc c)) (least f c)) (suc c) (last_least f c)

-- the least loss of b records in the layers below x
unfoldable pub least_loss : Rule → List LayerHead → (s k x b : ℕ) → ℕ
least_loss rule layers s k zero b = cond (eqb b 0) 0 no_split
least_loss rule layers s k (suc x) b = least (λ c. loss_of rule layers s k x c + least_loss rule layers s k x (b - c)) b

-- the count of layer x, of b records in the layers up to x: the largest that leaves the least loss
unfoldable pub best_count : Rule → List LayerHead → (s k x b : ℕ) → ℕ
best_count rule layers s k x b = last_least (λ c. loss_of rule layers s k x c + least_loss rule layers s k x (b - c)) b

-- the counts of the layers below x that share b records, layer 0 first
unfoldable pub named_counts : Rule → List LayerHead → (s k x b : ℕ) → List ℕ
named_counts rule layers s k zero b = []
named_counts rule layers s k (suc x) b =
    let c = best_count rule layers s k x b in
    named_counts rule layers s k x (b - c) ++ (c ∷ [])

-- the named split, computed
unfoldable pub named_split : Rule → List LayerHead → (s k b : ℕ) → ℕ → Share
named_split rule layers s k b = counts_split layers (named_counts rule layers s k s b)
