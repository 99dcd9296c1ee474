-- Pieces that are appended one after another.
use Rattle.std.proofs.Common.{◌≡◌, ℕ, List, ◌++◌, append_assoc}

pub four_pieces : (start first second third last a b c d : List ℕ)
    → first ≡ start ++ a → second ≡ first ++ b → third ≡ second ++ c → last ≡ third ++ d
    → last ≡ start ++ (a ++ b ++ c ++ d)
four_pieces start first second third last a b c d p q r s = rw (s, r, q, p) (simp append_assoc)

pub five_pieces : (start first second third fourth last a b c d e : List ℕ)
    → first ≡ start ++ a → second ≡ first ++ b → third ≡ second ++ c → fourth ≡ third ++ d → last ≡ fourth ++ e
    → last ≡ start ++ (a ++ b ++ c ++ d ++ e)
five_pieces start first second third fourth last a b c d e p q r s t = rw (t, s, r, q, p) (simp append_assoc)

pub six_pieces : (start first second third fourth fifth last a b c d e f : List ℕ)
    → first ≡ start ++ a → second ≡ first ++ b → third ≡ second ++ c → fourth ≡ third ++ d → fifth ≡ fourth ++ e → last ≡ fifth ++ f
    → last ≡ start ++ (a ++ b ++ c ++ d ++ e ++ f)
six_pieces start first second third fourth fifth last a b c d e f p q r s t u = rw (u, t, s, r, q, p) (simp append_assoc)
