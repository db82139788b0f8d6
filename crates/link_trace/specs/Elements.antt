-- Elements of SVG that a picture is made of.
use Rattle.std.specs.Prelude.{ℕ, List, ◌++◌, codes}
use Rattle.std.specs.Fmt.{decimal}

-- ---- words, which the end of their element follows

-- from here on
unfoldable pub words_at : ℕ → ℕ → List ℕ
words_at x y = codes "<text x=\"" ++ (decimal x ++ (codes "\" y=\"" ++ (decimal y ++ codes "\">")))

-- about here or before
unfoldable pub words_by : ℕ → ℕ → List ℕ → List ℕ
words_by x y anchor =
    codes "<text x=\"" ++ (decimal x ++ (codes "\" y=\"" ++ (decimal y ++ (codes "\" text-anchor=\"" ++ (anchor ++ codes "\">")))))

-- the words of a title
unfoldable pub heading_at : ℕ → List ℕ → List ℕ
heading_at y words = codes "<text x=\"900\" y=\"" ++ (decimal y ++ (codes "\" font-size=\"200\" font-weight=\"bold\">" ++ words))

-- the words of a death, whose place across follows
unfoldable pub death_words_at : ℕ → List ℕ
death_words_at y = codes "<text y=\"" ++ (decimal y ++ codes "\" x=\"")

-- ---- lines

-- the frame of a panel
unfoldable pub rectangle : ℕ → List ℕ
rectangle top =
    codes "<rect x=\"900\" y=\"" ++ (decimal top ++ codes "\" width=\"8800\" height=\"3400\" fill=\"none\" stroke=\"#000000\" stroke-width=\"8\"/>\n")

-- a short line at a number of an axis
unfoldable pub notch : ℕ → ℕ → List ℕ → List ℕ
notch x y way = codes "<path stroke=\"#000000\" stroke-width=\"8\" d=\"M" ++ (decimal x ++ (codes " " ++ (decimal y ++ (way ++ codes "\"/>\n"))))

-- a path's line, beside what it carries
unfoldable pub key_line : List ℕ → List ℕ → ℕ → ℕ → List ℕ
key_line colour dashes x y =
    codes "<path stroke-width=\"60\" stroke=\"" ++ (colour ++ (codes "\"" ++ (dashes ++ (codes " d=\"M" ++ (decimal x ++ (codes " " ++ (decimal y ++ codes "h200\"/>\n")))))))

-- a dashed line over the height of a panel
unfoldable pub death_line : List ℕ → ℕ → ℕ → List ℕ
death_line colour x top =
    codes "<path stroke-width=\"16\" stroke-dasharray=\"60 60\" stroke=\"" ++ (colour ++ (codes "\" d=\"M" ++ (decimal x ++ (codes " " ++ (decimal top ++ codes "v3400\"/>\n")))))

-- ---- lines whose moves follow

-- of bars
unfoldable pub bars_head : List ℕ → List ℕ → List ℕ
bars_head colour dashes =
    codes "<path fill=\"none\" stroke-width=\"24\" stroke-linecap=\"round\" stroke=\"" ++ (colour ++ (codes "\"" ++ (dashes ++ codes " d=\"")))

-- of hollow bars
unfoldable pub boxes_head : List ℕ → List ℕ
boxes_head colour = codes "<path fill=\"#ffffff\" stroke-width=\"10\" stroke=\"" ++ (colour ++ codes "\" d=\"")

-- of crosses, red
unfoldable pub crosses_head : List ℕ
crosses_head = codes "<path fill=\"none\" stroke-width=\"30\" stroke=\"#d62728\" d=\""

-- of windows, from the first one on
unfoldable pub line_head : List ℕ → List ℕ → List ℕ
line_head colour dashes =
    codes "<path fill=\"none\" stroke-width=\"20\" stroke-linejoin=\"round\" stroke=\"" ++ (colour ++ (codes "\"" ++ (dashes ++ codes " d=\"M")))

-- of stairs, grey, from the floor up
unfoldable pub stairs_head : ℕ → List ℕ
stairs_head floor = codes "<path fill=\"none\" stroke-width=\"12\" stroke=\"#808080\" d=\"M900 " ++ decimal floor

-- ---- the legend: a mark, and what it means

unfoldable pub payload_entry : List ℕ
payload_entry =
    codes "<path fill=\"none\" stroke=\"#000000\" stroke-width=\"24\" stroke-linecap=\"round\" d=\"M920 230V110\"/>\n<text x=\"1000\" y=\"220\">payload</text>\n"

unfoldable pub again_entry : List ℕ
again_entry =
    codes "<path fill=\"#ffffff\" stroke=\"#000000\" stroke-width=\"10\" d=\"M2000 230h40V110h-40z\"/>\n<text x=\"2100\" y=\"220\">sent again, or moved</text>\n"

unfoldable pub lost_entry : List ℕ
lost_entry =
    codes "<path fill=\"none\" stroke=\"#d62728\" stroke-width=\"30\" d=\"M4300 130l80 80m0 -80l-80 80\"/>\n<text x=\"4460\" y=\"220\">lost</text>\n"

unfoldable pub acknowledged_entry : List ℕ
acknowledged_entry =
    codes "<path fill=\"none\" stroke=\"#808080\" stroke-width=\"12\" d=\"M5400 230h100V170h100V110h100\"/>\n<text x=\"5780\" y=\"220\">acknowledged (Data ACK)</text>\n"
