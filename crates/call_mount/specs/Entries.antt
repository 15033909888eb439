-- Entries of the map put from the first on: in the words, and in the state that they are.
use Rattle.std.specs.Prelude.{ℕ, List, ◌++◌, take, drop}
use Rattle.state.specs.State.{State}
use Rattle.state_words.specs.Decoded.{with_map}

-- the words with the n entries hs
abbrev pub map_back : List ℕ → List ℕ → ℕ → List ℕ
map_back c hs n = take 256 c ++ (hs ++ drop n (drop 256 c))

-- the state with them; the entries after them stay
abbrev pub with_entries : State → List ℕ → ℕ → State
with_entries st hs n = with_map st (hs ++ drop n st.map)
