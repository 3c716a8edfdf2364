-- The keywords of a font file, letter by letter (docs/SHEET.md, Fonts from BDF). Assumes nothing.
-- To be believed: it says what a font file means.
use Rattle.std.specs.Prelude.{ℕ, List, [], ◌∷◌}

abbrev A : ℕ
A = 0x41

abbrev B : ℕ
B = 0x42

abbrev C : ℕ
C = 0x43

abbrev D : ℕ
D = 0x44

abbrev E : ℕ
E = 0x45

abbrev F : ℕ
F = 0x46

abbrev G : ℕ
G = 0x47

abbrev H : ℕ
H = 0x48

abbrev I : ℕ
I = 0x49

abbrev M : ℕ
M = 0x4D

abbrev N : ℕ
N = 0x4E

abbrev O : ℕ
O = 0x4F

abbrev P : ℕ
P = 0x50

abbrev R : ℕ
R = 0x52

abbrev S : ℕ
S = 0x53

abbrev T : ℕ
T = 0x54

abbrev U : ℕ
U = 0x55

abbrev W : ℕ
W = 0x57

abbrev X : ℕ
X = 0x58

abbrev Z : ℕ
Z = 0x5A

abbrev pub start_font : List ℕ
start_font = S ∷ T ∷ A ∷ R ∷ T ∷ F ∷ O ∷ N ∷ T ∷ []

abbrev pub font : List ℕ
font = F ∷ O ∷ N ∷ T ∷ []

abbrev pub size : List ℕ
size = S ∷ I ∷ Z ∷ E ∷ []

abbrev pub font_bounding_box : List ℕ
font_bounding_box = F ∷ O ∷ N ∷ T ∷ B ∷ O ∷ U ∷ N ∷ D ∷ I ∷ N ∷ G ∷ B ∷ O ∷ X ∷ []

abbrev pub start_properties : List ℕ
start_properties = S ∷ T ∷ A ∷ R ∷ T ∷ P ∷ R ∷ O ∷ P ∷ E ∷ R ∷ T ∷ I ∷ E ∷ S ∷ []

abbrev pub end_properties : List ℕ
end_properties = E ∷ N ∷ D ∷ P ∷ R ∷ O ∷ P ∷ E ∷ R ∷ T ∷ I ∷ E ∷ S ∷ []

abbrev pub chars : List ℕ
chars = C ∷ H ∷ A ∷ R ∷ S ∷ []

abbrev pub start_char : List ℕ
start_char = S ∷ T ∷ A ∷ R ∷ T ∷ C ∷ H ∷ A ∷ R ∷ []

abbrev pub encoding : List ℕ
encoding = E ∷ N ∷ C ∷ O ∷ D ∷ I ∷ N ∷ G ∷ []

abbrev pub swidth : List ℕ
swidth = S ∷ W ∷ I ∷ D ∷ T ∷ H ∷ []

abbrev pub dwidth : List ℕ
dwidth = D ∷ W ∷ I ∷ D ∷ T ∷ H ∷ []

abbrev pub bbx : List ℕ
bbx = B ∷ B ∷ X ∷ []

abbrev pub attributes : List ℕ
attributes = A ∷ T ∷ T ∷ R ∷ I ∷ B ∷ U ∷ T ∷ E ∷ S ∷ []

abbrev pub bitmap : List ℕ
bitmap = B ∷ I ∷ T ∷ M ∷ A ∷ P ∷ []

abbrev pub end_char : List ℕ
end_char = E ∷ N ∷ D ∷ C ∷ H ∷ A ∷ R ∷ []

abbrev pub end_font : List ℕ
end_font = E ∷ N ∷ D ∷ F ∷ O ∷ N ∷ T ∷ []

abbrev pub comment : List ℕ
comment = C ∷ O ∷ M ∷ M ∷ E ∷ N ∷ T ∷ []

-- `2.1`
abbrev pub version : List ℕ
version = 0x32 ∷ 0x2E ∷ 0x31 ∷ []
