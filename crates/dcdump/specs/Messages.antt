-- The lines that the program writes (FORMAT, "Frames"), each with its newline.
use Rattle.std.specs.Prelude.{ℕ, List, [], ◌∷◌, ◌++◌}
use Rattle.print.specs.Text.{decimal}

-- `bad line N`
unfoldable pub bad_line : ℕ → List ℕ
bad_line n = (0x62 ∷ 0x61 ∷ 0x64 ∷ 0x20 ∷ 0x6c ∷ 0x69 ∷ 0x6e ∷ 0x65 ∷ 0x20 ∷ []) ++ (decimal n ++ (0x0a ∷ []))

-- `refused R at P`
unfoldable pub refused_line : ℕ → ℕ → List ℕ
refused_line r p =
    (0x72 ∷ 0x65 ∷ 0x66 ∷ 0x75 ∷ 0x73 ∷ 0x65 ∷ 0x64 ∷ 0x20 ∷ [])
    ++ (decimal r ++ ((0x20 ∷ 0x61 ∷ 0x74 ∷ 0x20 ∷ []) ++ (decimal p ++ (0x0a ∷ []))))

-- `accepted L`
unfoldable pub accepted_line : ℕ → List ℕ
accepted_line l = (0x61 ∷ 0x63 ∷ 0x63 ∷ 0x65 ∷ 0x70 ∷ 0x74 ∷ 0x65 ∷ 0x64 ∷ 0x20 ∷ []) ++ (decimal l ++ (0x0a ∷ []))
