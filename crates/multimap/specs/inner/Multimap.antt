-- What an array of three parts keeps of up to 8,192 places: for each of 4,096 slots the last place on it, the number of each place, and the place before
-- it on the same slot. Place i is kept as i + 1, and 0 stands for none.
use Rattle.std.specs.Prelude.{ℕ, ◌+◌, ◌%◌, ◌≤◌, ◌<◌, ◌≡◌, List, length, get_or, Option}
use Rattle.std.specs.Option.{ForSome, ForNone}

-- The number of place i.
unfoldable pub number_at : List ℕ → ℕ → ℕ
number_at map i = get_or map (4096 + i) 0

-- c is the last of the first n places whose number falls on slot s.
pub record OnSlot (map : List ℕ) (s n c : ℕ) : Type 0 where
  pub within : c ≤ n
  pub after : (i : ℕ) → c ≤ i → i < n → number_at map i % 4096 ≡ s → ⊥
  pub slot : (i : ℕ) → i + 1 ≡ c → number_at map i % 4096 ≡ s

-- n places are filled.
pub record Filled (n : ℕ) (map : List ℕ) : Type 0 where
  pub long : length map ≡ 20480
  pub few : n ≤ 8192
  pub head : (s : ℕ) → s < 4096 → OnSlot map s n (get_or map s 0)
  pub link : (i : ℕ) → i < n → OnSlot map (number_at map i % 4096) i (get_or map (12288 + i) 0)

-- Place i is the last of the first n places that has number x.
pub record LastPlace (map : List ℕ) (n x i : ℕ) : Type 0 where
  pub within : i < n
  pub number : number_at map i ≡ x
  pub after : (k : ℕ) → i < k → k < n → number_at map k ≡ x → ⊥

-- r is that place, or None if none of them has it.
pub record LastWith (map : List ℕ) (n x : ℕ) (r : Option ℕ) : Type 0 where
  pub some : ForSome r (LastPlace map n x)
  pub none : ForNone r ((i : ℕ) → i < n → number_at map i ≡ x → ⊥)

-- Place n is filled with x, and those before it are as they were.
pub record PutBehind (before : List ℕ) (n x : ℕ) (after : List ℕ) : Type 0 where
  pub filled : Filled (n + 1) after
  pub number : number_at after n ≡ x
  pub stay : (i : ℕ) → i < n → number_at after i ≡ number_at before i
