mod HeldKeys
